pub mod Bytes
pub mod Page
pub mod Index
pub mod Refused
