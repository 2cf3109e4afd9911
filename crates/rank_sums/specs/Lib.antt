pub mod Words
pub mod Folds
pub mod Parts
pub mod PartTrees
pub mod PartPlans
pub mod Sums
