pub mod Documents
pub mod Invoice
pub mod Records
pub mod Total
