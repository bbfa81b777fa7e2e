pub mod OfFine
pub mod Laws
