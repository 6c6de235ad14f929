pub mod CommitRows
pub mod Advance
pub mod Clear
pub mod Still
pub mod Recording
