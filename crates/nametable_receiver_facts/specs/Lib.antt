-- The causes of refusal of a receiver.
pub mod Causes
