-- What labels are made of: letters and their case, LDH, the host label, and a prefix.
pub mod Case
pub mod Ldh
pub mod Prefix
