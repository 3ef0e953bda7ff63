-- The causes of refusal of the short form.
pub mod Causes
