pub mod Answered
pub mod Comes
pub mod Digests
