-- The laws on case, LDH, hyphens at an edge, host labels and prefixes.
pub mod Case
pub mod Codec
pub mod Ldh
pub mod EdgeHyphen
pub mod HostLabel
pub mod Prefix
pub mod Examples
