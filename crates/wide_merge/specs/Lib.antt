pub mod Parts
pub mod ClassLists
pub mod Joining
pub mod Waves
