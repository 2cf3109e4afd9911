pub mod CaptureLaws
pub mod Pieces
pub mod Written
