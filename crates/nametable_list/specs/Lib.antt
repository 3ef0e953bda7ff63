-- What the list of a name table prints.
pub mod Listing
pub mod Internal
