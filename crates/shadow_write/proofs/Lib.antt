pub mod Rows
pub mod Required
pub mod Whole
pub mod Apart
pub mod BandRows
pub mod Within
