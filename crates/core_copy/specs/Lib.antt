pub mod Around
pub mod Behind
pub mod Progress
pub mod JobRun
pub mod Closed
pub mod Holding
