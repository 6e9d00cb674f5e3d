pub mod Documents
pub mod Records
pub mod Totals
