pub mod Checks
pub mod Packing
pub mod Unpacked
pub mod Words
