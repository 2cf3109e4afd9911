pub mod Tokens
pub mod TokenViews
pub mod Statements
pub mod ParserViews
pub mod Invariants
pub mod Grammar
pub mod Whole
pub mod Rows
