-- The laws on points, units and bytes, and on what the conversions answer.
pub mod Surrogates
pub mod BytePairs
pub mod Pieces
pub mod Stores
pub mod RoundTrip
pub mod Refusals
pub mod Converted
