pub mod Boxed
pub mod Folded
pub mod GivesPairs
pub mod LendsList
