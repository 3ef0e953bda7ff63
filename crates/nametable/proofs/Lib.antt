-- The laws on entries and tables.
pub mod EntryLaws
pub mod TableLaws
