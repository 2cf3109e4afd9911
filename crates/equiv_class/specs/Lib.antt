pub mod Classes
pub mod ClassList
pub mod SeenPaths
pub mod States
pub mod Rows
pub mod Origins
pub mod StateBlocks
