pub mod Pool
pub mod Writing
pub mod Reading
pub mod Got
pub mod Asked
pub mod BlockTurns
pub mod Shared
