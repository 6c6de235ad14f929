pub mod Begun
pub mod Works
pub mod Syncs
pub mod Comes
pub mod Goes
