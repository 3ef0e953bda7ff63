-- Laws on the C interface.
pub mod Naming
pub mod Counts
pub mod Settled
