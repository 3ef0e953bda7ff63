-- The receiver of a name table that arrives in chunks.
pub mod Receiving
