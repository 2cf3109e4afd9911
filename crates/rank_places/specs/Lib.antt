pub mod Places
pub mod Table
pub mod Collected
pub mod Rows
