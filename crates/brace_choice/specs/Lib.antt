-- Which style a text of BRACE has.
pub mod Choice
