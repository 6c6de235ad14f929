pub mod Turn
pub mod Seats
