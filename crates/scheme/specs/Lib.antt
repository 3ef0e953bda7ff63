-- The directory of schemes, and the codec of each.
pub mod Naming
pub mod Coding
