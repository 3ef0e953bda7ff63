-- Laws on what calls move.
pub mod Counting
pub mod Moving
