pub mod Captures
pub mod CaptureText
pub mod Rows
