pub mod Sittings
pub mod Words
