pub mod WaveSamples
pub mod Prefixes
pub mod Standing
pub mod Daemons
pub mod Pendings
pub mod Takings
pub mod WaveTrees
