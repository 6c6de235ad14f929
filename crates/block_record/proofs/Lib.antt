pub mod Rows
pub mod Reading
pub mod Grows
pub mod Spelling
pub mod Entries
pub mod Sectors
pub mod Pages
