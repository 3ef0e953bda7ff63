-- The laws of reading a body.
pub mod Bits
pub mod Reading
pub mod Head
