-- What a label of BRACE says of itself: its signature, and the four styles.
pub mod Signature
pub mod Style
