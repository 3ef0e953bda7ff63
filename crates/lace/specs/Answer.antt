-- What encoding and decoding answer, with marks and without, each defined beside its function.
unfoldable pub use Rattle.lace_encoding.specs.Answer.{encode_outcome, encode_marked_outcome}
unfoldable pub use Rattle.lace_decoding.specs.Answer.{decode_outcome, decode_marked_outcome}
