pub mod Packets
pub mod Independent
pub mod Releases
pub mod Claims
pub mod Claimable
