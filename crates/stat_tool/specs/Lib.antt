pub mod Reports
pub mod Outputs
pub mod Call
pub mod Ending
pub mod Views
pub mod Rows
