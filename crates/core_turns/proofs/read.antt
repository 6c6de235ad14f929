pub mod Turns
pub mod Laws
pub mod Calls
pub mod Stands
pub mod Covered
