pub mod Told
pub mod Rings
