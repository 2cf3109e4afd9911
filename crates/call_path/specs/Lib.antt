pub mod Path
pub mod Pairs
pub mod Good
pub mod Reading
pub mod Cuts
pub mod TextOrder
pub mod Functions
pub mod Rows
