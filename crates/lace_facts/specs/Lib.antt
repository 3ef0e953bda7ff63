-- LACE's rules of form, the causes of its refusals, and its codec, with marks and without.
pub mod WellFormed
pub mod Causes
pub mod Codec
pub mod Marked
