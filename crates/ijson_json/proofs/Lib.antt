pub mod scanning
pub mod grammar
pub mod reading
pub mod errors
pub mod faults
pub mod writing
pub mod devices
