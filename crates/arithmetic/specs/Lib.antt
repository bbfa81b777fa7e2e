pub mod Faults
pub mod Rules
