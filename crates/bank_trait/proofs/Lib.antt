pub mod Moments
pub mod Touches
