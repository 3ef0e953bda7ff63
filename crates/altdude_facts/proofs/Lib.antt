-- Theorems on AltDUDE's definitions.
pub mod Bytes
pub mod RoundTrip
pub mod Items
pub mod Edges
pub mod Label
pub mod Settled
pub mod Marks
pub mod Faithful
pub mod Marked
