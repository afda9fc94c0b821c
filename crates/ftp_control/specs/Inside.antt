-- The bookkeeping of the channel: what its parts keep between two bytes. No public clause speaks of it.
pub mod Ahead
pub mod Held
pub mod Phases
pub mod ReadLoop
pub mod UnderWay
pub mod Verdict
