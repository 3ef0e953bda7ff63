-- The name table: what reading it and one entry of it answer.
pub mod Answer
pub mod Internal
