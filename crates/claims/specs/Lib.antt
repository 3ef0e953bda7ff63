-- The demands as named statements; what writing a table, its short form, receiving it in chunks and the difference report promise; what
-- holds of marks; the known labels; that BRACE is as its draft says; that LACE is as short as it may be; what holds of host names.
pub mod Demand1
pub mod Demands
pub mod Written
pub mod ShortForm
pub mod Differences
pub mod Receiving
pub mod Marks
pub mod KnownLabels
pub mod Brace
pub mod Shortest
pub mod HostNames
