pub mod Counting
pub mod Following
pub mod OneScript
pub mod Run
pub mod Runs
pub mod Script
pub mod Scripted
