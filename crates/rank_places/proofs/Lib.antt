pub mod Places
pub mod Runs
pub mod Images
pub mod Bits
pub mod Gathering
pub mod OneWord
pub mod WordByWord
pub mod WholeWords
