pub mod Answers
pub mod Laws
pub mod Obeyed
pub mod OfHoppers
pub mod Totals
