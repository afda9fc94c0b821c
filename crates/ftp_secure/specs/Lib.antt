pub mod Connectors
pub mod Continues
pub mod Gone
pub mod Kept
pub mod Securing
pub mod Streams
