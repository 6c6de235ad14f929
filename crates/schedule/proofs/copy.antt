pub mod Refused
pub mod Uses
pub mod Comes
pub mod Goes
