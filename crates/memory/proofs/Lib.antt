pub mod Bitmaps
pub mod Kept
