pub mod Faults
pub mod Words
pub mod Steps
pub mod Runs
pub mod Laws
pub mod Encoded
pub mod Worked
