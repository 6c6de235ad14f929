pub mod Sharing
pub mod Widening
