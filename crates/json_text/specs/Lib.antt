pub mod Values
pub mod Tokens
