pub mod NameNumbers
pub mod DaemonNames
pub mod Leaves
pub mod UpTo
pub mod Climbs
pub mod Finding
