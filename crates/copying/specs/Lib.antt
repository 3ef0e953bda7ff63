-- What schemes share that copy letters with their case: labels as rows of symbols, and the modes.
pub mod Symbols
pub mod Modes
