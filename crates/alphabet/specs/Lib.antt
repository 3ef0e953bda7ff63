-- The three alphabets, and a byte looked up.
pub mod Alphabet
