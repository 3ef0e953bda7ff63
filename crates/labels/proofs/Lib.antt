-- The laws on the first tests, on the shared causes and on marks, and the facts about a codec with marks.
pub mod FirstTests
pub mod Causes
pub mod MarkTests
pub mod MarkRoom
pub mod MarkFacts
