pub mod Contributions
pub mod Gathering
