pub mod TakenBack
pub mod Stands
