pub mod Names
pub mod NodeSets
pub mod Trees
pub mod Tables
pub mod Topologies
pub mod Daemons
pub mod Scripts
pub mod Codes
