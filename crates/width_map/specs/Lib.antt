pub mod Place
pub mod Births
pub mod Table
