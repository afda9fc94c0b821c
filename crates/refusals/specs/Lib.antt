pub mod Aborted
