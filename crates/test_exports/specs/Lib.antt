-- What the test exports leave in the row of their answer, and bytes in chunks.
pub mod Answer
pub mod Chunks
pub mod Internal
