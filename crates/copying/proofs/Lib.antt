-- Laws of labels as rows of symbols, and the facts from which the demands follow.
pub mod Elements
pub mod Modes
pub mod Bytes
pub mod Lengths
pub mod Same
pub mod Case
pub mod Hosts
pub mod Heads
pub mod Facts
