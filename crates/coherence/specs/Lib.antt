pub mod Laws
pub mod Moves
pub mod Places
pub mod Records
pub mod Roles
pub mod States
pub mod Table
