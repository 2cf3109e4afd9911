pub mod Views
pub mod Reading
pub mod Selections
pub mod Rows
