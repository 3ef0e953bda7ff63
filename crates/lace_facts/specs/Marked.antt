-- LACE as a codec with marks, of which the claims on marks speak.
use Rattle.std.specs.Prelude.{false, map}
use Rattle.ascii.specs.Case.{small}
use Rattle.ascii.specs.Ldh.{is_host_label}
use Rattle.labels.specs.MarkedCodec.{MarkedCodec}
use Rattle.lace_encoding.specs.Encoding.{label_of}
use Rattle.lace_decoding.specs.Decoding.{marks_of}
use Rattle.lace.specs.Answer.{encode_marked_outcome, decode_marked_outcome}
use Rattle.lace_facts.specs.Causes.{marked_text_causes}
use Rattle.lace_facts.specs.Codec.{codec}

-- marks are all 0, and no character shows one
abbrev pub marked_codec : MarkedCodec
marked_codec = record {
  codec = codec;
  keeps = false;
  encode_outcome = encode_marked_outcome is_host_label;
  decode_outcome = decode_marked_outcome is_host_label;
  label_with = λ marks t. label_of t;
  marks_of = marks_of;
  text_causes = marked_text_causes;
  small_but_marks = λ l. map small l;
}
