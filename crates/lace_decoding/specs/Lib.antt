-- Reading LACE: the decoding, and what it answers.
pub mod Decoding
pub mod Answer
pub mod Internal
