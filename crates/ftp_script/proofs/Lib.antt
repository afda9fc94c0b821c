pub mod Escaping
pub mod Making
pub mod Reading
pub mod Showing
pub mod Splitting
pub mod Numbering
