-- The bookkeeping of steps: what ties the machine to the definitions. No public clause of a session speaks of it.
pub mod Moving
pub mod Polls
pub mod Questions
pub mod Stages
