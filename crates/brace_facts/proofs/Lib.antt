-- BRACE: the round trip, case, the facts from which the demands follow, the choice of style and its cost, the
-- draft's procedure, and examples.
pub mod Alphabet
pub mod Steps
pub mod Codes
pub mod Styles
pub mod Head
pub mod RoundTrip
pub mod Case
pub mod Hosts
pub mod Settled
pub mod Faithful
pub mod Points
pub mod Lengths
pub mod Choice
pub mod Cost
pub mod Procedure
pub mod Examples
pub mod Published
