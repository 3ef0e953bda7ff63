-- Reading BRACE: what it answers.
pub mod Answer
