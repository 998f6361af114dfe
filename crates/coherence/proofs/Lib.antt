pub mod Broadcasts
pub mod Everywhere
pub mod Laws
