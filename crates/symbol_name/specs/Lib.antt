pub mod Texts
pub mod Repeats
pub mod Copies
pub mod Modules
pub mod Mpi
pub mod Standard
pub mod Symbols
pub mod Rows
