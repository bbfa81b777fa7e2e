pub mod Cuts
pub mod Glue
pub mod Lines
pub mod Lists
pub mod Tables
pub mod Values
