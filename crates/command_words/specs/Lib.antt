pub mod Words
pub mod Grammar
pub mod Served
pub mod Reading
