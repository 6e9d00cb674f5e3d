pub mod linear
pub mod table
