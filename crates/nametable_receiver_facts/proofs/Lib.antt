-- Theorems on a receiver's definitions.
pub mod Settled
pub mod Later
pub mod Entries
pub mod Whole
pub mod States
