pub mod Known
pub mod Outputs
pub mod Reads
