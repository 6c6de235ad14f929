pub mod Turns
pub mod Calls
pub mod Stands
pub mod Looks
pub mod Mends
pub mod Mended
pub mod Runs
pub mod RunStands
