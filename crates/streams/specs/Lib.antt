-- The results of calls, and what is believed of bytes that were read.
pub mod Calls
pub mod Reading
