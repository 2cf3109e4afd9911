pub mod Numbers
pub mod Words
pub mod Steps
pub mod Grammar
pub mod Views
pub mod UsualLines
pub mod Rows
