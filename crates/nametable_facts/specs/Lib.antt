-- The causes of refusal of the name table, and the entries that it holds.
pub mod Causes
pub mod Entries
