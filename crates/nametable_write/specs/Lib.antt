-- What writing a name table does.
pub mod Writing
pub mod Internal
pub mod Tested
