-- The laws on parts of a table, and on a scheme that is named.
pub mod Parts
pub mod Schemes
