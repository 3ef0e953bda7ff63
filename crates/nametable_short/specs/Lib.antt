-- The short form of the name table: what its functions answer.
pub mod Answer
