pub mod Places
pub mod Lists
pub mod Trees
pub mod Changes
pub mod Descents
pub mod Counted
