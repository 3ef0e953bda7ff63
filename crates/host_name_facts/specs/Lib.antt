-- Parts without dots, the causes of refusal of host names, and their codec.
pub mod Dotless
pub mod Causes
pub mod Codec
