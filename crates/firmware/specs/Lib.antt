-- What the C interface answers, and the causes of its refusals.
pub mod Answer
pub mod Causes
