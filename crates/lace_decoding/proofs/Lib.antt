-- The laws of reading LACE.
pub mod DecodeLaws
pub mod Lengths
