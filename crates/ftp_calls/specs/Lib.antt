pub mod Active
pub mod Addresses
pub mod Answers
pub mod Dates
pub mod Exchanges
pub mod Kinds
pub mod Listing
pub mod Times
