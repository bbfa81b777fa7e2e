pub mod Modulo
pub mod OfOld
