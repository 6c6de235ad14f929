pub mod Inverse
pub mod Weight
pub mod Row
pub mod Gaps
pub mod Serving
