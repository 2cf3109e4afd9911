pub mod Digits
pub mod Simple
pub mod Tested
