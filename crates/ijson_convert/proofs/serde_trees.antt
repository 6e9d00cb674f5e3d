pub mod SerdeMeanings
pub mod SerdeNumbers
pub mod SerdeTrees
