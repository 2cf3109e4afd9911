pub mod CastText
pub mod Rows
