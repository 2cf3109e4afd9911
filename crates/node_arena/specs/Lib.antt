pub mod Arena
pub mod Layout
pub mod Lends
pub mod Ownership
pub mod SlotWrites
pub mod Filled
