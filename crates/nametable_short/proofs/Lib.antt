-- Laws on moving a table, and examples.
pub mod MoveLaws
mod Examples
