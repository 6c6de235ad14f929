pub mod Rows
pub mod OneSpelling
pub mod Digest
pub mod DeviceSets
pub mod Choosing
pub mod BirthRules
pub mod Headers
pub mod FirstUber
