-- What differs between two name tables, and the report on it.
pub mod Differences
pub mod Report
pub mod Internal
