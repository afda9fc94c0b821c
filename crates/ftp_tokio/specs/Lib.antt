pub mod Attempts
pub mod Needs
pub mod Outcomes
