-- Laws on what is printed.
pub mod Reading
pub mod Widths
pub mod LastLine
pub mod Answering
pub mod Printing
