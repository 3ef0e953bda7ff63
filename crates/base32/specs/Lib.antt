-- Bits regrouped, Base32, and what its writer and reader answer.
pub mod Bits
pub mod Form
pub mod Base32
pub mod Answer
pub mod Causes
