-- The laws on the shared definitions.
pub mod Clauses
pub mod Tests
pub mod Scan
pub mod Lists
pub mod Stores
pub mod Copying
pub mod Parts
pub mod Enums
pub mod Outcome
pub mod Causes
pub mod Codec
pub mod Chains
