pub mod PairTrees
pub mod PairsPut
pub mod Shown
