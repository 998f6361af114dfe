pub mod Format
pub mod Parts
