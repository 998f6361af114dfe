pub mod Control
pub mod Controlled
