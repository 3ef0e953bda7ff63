-- The laws on the step, the theorem on the run, and the edges.
pub mod Holding
pub mod Stepping
pub mod Taken
pub mod Splitting
pub mod Examples
