pub mod Texts
pub mod Orders
pub mod Sending
