-- The laws of host names, and examples.
pub mod Lengths
pub mod Examples
pub mod Parts
pub mod InTurn
pub mod Placing
pub mod PartLaws
pub mod Turns
pub mod NameLaws
