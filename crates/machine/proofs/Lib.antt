pub mod Decodes
pub mod Grants
