pub mod Joins
pub mod Turns
pub mod Goes
pub mod Stands
pub mod Signs
pub mod Beside
pub mod Begins
