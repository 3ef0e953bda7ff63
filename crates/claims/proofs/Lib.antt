-- The proofs of the claims, which cite the crates below.
pub mod CodecDemands
pub mod Interface
pub mod Rows
pub mod Positions
pub mod Differences
pub mod Receiving
pub mod Demand1
pub mod Demands
pub mod Marks
pub mod Written
pub mod ShortForm
pub mod KnownLabels
pub mod Brace
pub mod Shortest
pub mod HostNames
