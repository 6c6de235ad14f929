pub mod Full
pub mod Puts
pub mod Comes
pub mod Ends
pub mod Goes
