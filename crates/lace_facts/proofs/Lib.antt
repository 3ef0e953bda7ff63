-- Theorems on LACE's definitions.
pub mod DistinctRuns
pub mod UnitOctets
pub mod StandFor
pub mod PrefixRule
pub mod Label
pub mod Reserved
pub mod Settled
pub mod LongLdh
pub mod Faithful
pub mod Marked
