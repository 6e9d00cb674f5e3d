pub mod BuildBounds
pub mod EntriesInOrder
