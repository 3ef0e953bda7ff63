-- Laws on what is printed.
pub mod EntryLines
pub mod AllLines
