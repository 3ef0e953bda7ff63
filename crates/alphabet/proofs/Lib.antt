-- The laws of alphabets.
pub mod Inverse
pub mod LookUp
pub mod Tables
pub mod Ranges
