pub mod Arranged
pub mod InOrder
pub mod Words
