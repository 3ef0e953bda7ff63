-- The laws of bits and Base32.
pub mod Bits
pub mod Regroup
pub mod Form
pub mod Windows
pub mod Values
pub mod Search
pub mod Outcomes
pub mod RoundTrip
pub mod Examples
