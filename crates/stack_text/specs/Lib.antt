pub mod Texts
pub mod Bare
pub mod Lines
pub mod LineViews
pub mod Threads
pub mod Processes
pub mod StackViews
pub mod Rows
