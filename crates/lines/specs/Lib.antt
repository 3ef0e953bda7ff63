-- The lines of an input, the step that finds them, and the run of the step over chunks.
pub mod Lines
pub mod Step
pub mod Run
