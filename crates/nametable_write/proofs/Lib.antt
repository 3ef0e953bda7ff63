-- The laws on lists to be written and on their bytes, and examples.
pub mod ListLaws
pub mod StoreLaws
mod WriteLaws
mod Examples
