pub mod Chunks
pub mod SlotLemmas
pub mod MutBorrow
pub mod SharedBorrow
pub mod Occupied
pub mod Sending
pub mod Filling
pub mod Blocks
