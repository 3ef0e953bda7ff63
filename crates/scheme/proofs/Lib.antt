-- Laws on the directory of schemes, and on encoding and decoding by scheme.
pub mod Naming
pub mod Coding
