-- Writing LACE: the encoding, and what it answers.
pub mod Encoding
pub mod Answer
pub mod Internal
