-- The symbols and the label of a text, and what writing them answers.
pub mod Encoding
pub mod Answer
