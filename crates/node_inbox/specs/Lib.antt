pub mod Inboxes
pub mod Queues
pub mod Sends
pub mod Cuts
pub mod Rows
