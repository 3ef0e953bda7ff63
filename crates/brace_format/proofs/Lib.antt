-- The laws of the signature.
pub mod Signed
