pub mod Orders
pub mod Lookups
pub mod Counts
pub mod Tables
