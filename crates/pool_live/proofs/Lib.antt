pub mod Sharing
pub mod Batches
pub mod Widening
