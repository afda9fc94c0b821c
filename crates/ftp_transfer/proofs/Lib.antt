pub mod CopyingLemmas
pub mod Marks
pub mod SavingLemmas
