pub mod Acceptance
mod Bytes
pub mod Numbers
pub mod Nodes
pub mod NameBytes
pub mod NameParts
pub mod Roots
pub mod OneTree
pub mod WholeFile
pub mod InvariantLemmas
pub mod Grammar
pub mod Links
pub mod Repeats
