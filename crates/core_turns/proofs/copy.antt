pub mod Laws
pub mod Beside
pub mod Turns
pub mod Calls
pub mod Ends
pub mod Stands
pub mod Rounds
