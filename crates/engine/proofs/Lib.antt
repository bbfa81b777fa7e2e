pub mod Keeps
pub mod Grants
pub mod Counted
