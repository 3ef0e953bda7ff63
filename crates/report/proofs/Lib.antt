-- The laws on what is printed.
pub mod Examples
pub mod DigitLaws
pub mod PointLaws
pub mod LineLaws
pub mod Filling
pub mod Widths
