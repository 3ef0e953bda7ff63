-- Host names: the parts of a row, and what writing and reading a name answer.
pub mod Parts
pub mod Answer
pub mod Internal
