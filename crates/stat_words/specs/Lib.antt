pub mod Modes
pub mod Values
pub mod Outcomes
pub mod Words
pub mod Rows
