pub mod AnyOutcome
