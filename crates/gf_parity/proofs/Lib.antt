pub mod Rows
pub mod Linear
pub mod Basis
pub mod Laws
pub mod Horner
pub mod Bits
pub mod Lanewise
