pub mod Codes
pub mod Tens
pub mod Ordered
pub mod IntegerValues
