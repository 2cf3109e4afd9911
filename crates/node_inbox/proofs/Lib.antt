pub mod Searches
pub mod Queues
pub mod Written
pub mod Emptied
pub mod Sending
pub mod Cutting
