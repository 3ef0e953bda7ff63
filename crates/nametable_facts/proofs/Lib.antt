-- Theorems on the name table's definitions.
pub mod Settled
pub mod SizeLaws
pub mod Truncation
pub mod Whole
pub mod JudgedEntry
pub mod ReadBack
pub mod Found
pub mod Rewritten
