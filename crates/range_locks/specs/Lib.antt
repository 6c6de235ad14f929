pub mod Gaining
pub mod Holds
pub mod Order
pub mod Search
