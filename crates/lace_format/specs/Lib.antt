-- LACE: the prefix, and runs.
pub mod Prefix
pub mod Octets
