pub mod Begins
pub mod Goes
pub mod Answered
pub mod Stands
pub mod Ends
