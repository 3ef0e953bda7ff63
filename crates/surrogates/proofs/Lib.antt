-- The laws on points and surrogates.
pub mod Surrogates
