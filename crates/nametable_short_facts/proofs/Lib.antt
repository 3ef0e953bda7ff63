-- Theorems on the short form's definitions.
pub mod FirstEntry
pub mod Forms
pub mod Moved
pub mod Truncation
pub mod Settled
pub mod Counts
