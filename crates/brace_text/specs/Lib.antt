-- The text of a label, and what reading its body answers.
pub mod Decoding
pub mod Answer
pub mod Internal
