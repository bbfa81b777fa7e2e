pub mod Meaning
pub mod Text
pub mod Theorem
