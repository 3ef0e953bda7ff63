-- The laws of the choice of a style.
pub mod HalfRows
pub mod Styles
