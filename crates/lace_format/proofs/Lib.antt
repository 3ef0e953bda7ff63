-- The laws that the count of runs rests on.
pub mod RowTests
