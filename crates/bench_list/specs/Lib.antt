-- What the bench list prints.
pub mod Listing
pub mod Answered
pub mod Turns
