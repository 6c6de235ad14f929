pub mod Rows
pub mod Once
pub mod Counts
pub mod Parts
pub mod Laws
pub mod Inverse
