pub mod Points
pub mod FirstGroup
pub mod Parity
pub mod Moments
pub mod Caused
pub mod NoSpace
