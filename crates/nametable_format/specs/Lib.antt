-- The format of the name table.
pub mod Format
