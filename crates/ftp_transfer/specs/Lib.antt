pub mod Copying
pub mod Mark
pub mod Saving
pub mod Transfer
