pub mod Reading
pub mod Writing
pub mod Fields
pub mod Reader
pub mod Whole
pub mod Bundle
