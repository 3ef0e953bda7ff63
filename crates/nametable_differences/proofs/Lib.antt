-- Laws on what differs between two tables.
pub mod EntryLaws
pub mod FormLaws
pub mod LineLaws
pub mod ReaderLaws
pub mod RowLaws
pub mod TurnLaws
mod Examples
