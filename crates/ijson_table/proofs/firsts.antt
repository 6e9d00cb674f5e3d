pub mod KeyRuns
pub mod KeyTies
pub mod PlacesSoFar
pub mod PutPlaces
