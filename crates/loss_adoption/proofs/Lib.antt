mod Completion
mod Leaves
mod Adoption
mod NumberLists
mod NearestSteps
