pub mod examples
pub mod tests
