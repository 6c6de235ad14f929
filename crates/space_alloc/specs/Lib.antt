pub mod Space
pub mod Entries
pub mod Edges
pub mod Fit
