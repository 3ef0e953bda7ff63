-- LACE: what both functions answer.
pub mod Answer
