-- The theorems on host names.
pub mod Dots
pub mod Parts
pub mod SmallLace
pub mod Labels
pub mod Settled
pub mod PartAnswers
pub mod Part
pub mod Names
