-- The laws of the symbols of a text.
pub mod Codes
pub mod Units
pub mod Signed
pub mod Edges
pub mod Labels
