pub mod Boards
pub mod Seats
pub mod Sending
