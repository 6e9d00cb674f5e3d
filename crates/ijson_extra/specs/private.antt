pub mod Walked
pub mod WordOf
pub mod Joined
