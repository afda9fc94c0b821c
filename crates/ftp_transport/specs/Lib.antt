pub mod Asking
pub mod Memory
pub mod Registering
pub mod Told
pub mod Waits
