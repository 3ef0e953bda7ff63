-- The laws of writing LACE.
pub mod Runs
pub mod EncodeLaws
