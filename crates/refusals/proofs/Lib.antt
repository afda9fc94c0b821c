pub mod Noop
