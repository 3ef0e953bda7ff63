-- Points and texts; surrogates, and the unpaired ones of a row of units.
pub mod Points
pub mod Surrogates
