pub mod Status
pub mod Files
pub mod Tasks
pub mod NextStep
pub mod Reading
