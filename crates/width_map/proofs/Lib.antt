pub mod Rows
pub mod CopyLimit
pub mod Growing
pub mod Tables
pub mod SameBirths
