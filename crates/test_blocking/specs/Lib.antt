pub mod Failing
pub mod Over
