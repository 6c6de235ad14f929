pub mod Layout
pub mod Standing
