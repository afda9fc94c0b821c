pub mod Paths
pub mod Listing
pub mod Plan
pub mod Carried
