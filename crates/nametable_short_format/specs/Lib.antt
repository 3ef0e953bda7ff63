-- The format of the short form of the name table.
pub mod Format
