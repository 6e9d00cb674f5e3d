pub mod Feeds
pub mod WordFolds
