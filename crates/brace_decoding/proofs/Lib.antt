-- The laws of reading BRACE.
pub mod Comparison
pub mod Plain
pub mod DecodeLaws
