pub mod Devices
pub mod Uberblock
pub mod Valid
pub mod Choice
pub mod Header
pub mod Rules
