-- The shared definitions: tests, rows, outcomes, causes, codecs.
pub mod Tests
pub mod Rows
pub mod Outcome
pub mod Causes
pub mod Codec
pub mod Internal
