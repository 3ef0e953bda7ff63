-- The laws of AltDUDE that its functions rest on.
pub mod Xor
pub mod Digits
pub mod Steps
pub mod EncodeLaws
pub mod MarkLaws
pub mod Tested
pub mod DecodeLaws
