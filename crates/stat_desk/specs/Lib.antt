pub mod Change
pub mod Faults
pub mod Desk
pub mod Feeding
pub mod Sink
pub mod Given
pub mod MemDesk
pub mod MemSink
