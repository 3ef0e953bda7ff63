-- Points, UTF-16 units, bytes, and what the conversions answer.
pub mod Points
pub mod Units
pub mod Bytes
pub mod Answer
pub mod Causes
