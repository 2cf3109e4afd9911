pub mod NodeKins
pub mod Reactions
pub mod Settled
pub mod Rows
