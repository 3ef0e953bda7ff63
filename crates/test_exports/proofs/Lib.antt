-- Laws on the row of an answer, on a receiver that is lent, and on bytes in chunks.
pub mod Row
pub mod Lent
pub mod ChunkLaws
