pub mod FrameLog
pub mod Rows
