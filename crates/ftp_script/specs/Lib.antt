pub mod Calls
pub mod Escapes
pub mod Lines
pub mod Playing
pub mod Script
pub mod Shown
pub mod Program
