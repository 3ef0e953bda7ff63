-- What encoding and decoding answer; encoding answers what writing the symbols does.
unfoldable pub use Rattle.brace_symbols.specs.Answer.{is_too_long, encode_outcome}
unfoldable pub use Rattle.brace_decoding.specs.Answer.{is_done, is_lawful, first_not_ldh, decode_outcome}
