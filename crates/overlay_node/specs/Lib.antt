pub mod Frames
pub mod Outputs
pub mod NodeViews
pub mod Acting
pub mod Contexts
pub mod Starts
