-- Laws on one short entry.
pub mod EntryLaws
