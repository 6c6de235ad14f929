pub mod CommitChoice
pub mod Advance
pub mod Clear
