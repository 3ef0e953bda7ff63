-- AltDUDE: symbols, the encoding, decoding, marks, and what the functions answer.
pub mod Symbols
pub mod Encoding
pub mod Decoding
pub mod Marks
pub mod Answer
pub mod Internal
