pub mod ItemsRead
pub mod MembersRead
pub mod HashRead
