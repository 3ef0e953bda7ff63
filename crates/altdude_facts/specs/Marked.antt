-- AltDUDE as a codec with marks, of which the claims on marks speak.
use Rattle.std.specs.Prelude.{true}
use Rattle.labels.specs.MarkedCodec.{MarkedCodec}
use Rattle.altdude.specs.Encoding.{label_of}
use Rattle.altdude.specs.Marks.{marked, marks_of, small_but_last}
use Rattle.altdude.specs.Answer.{encode_marked_outcome, decode_marked_outcome}
use Rattle.altdude_facts.specs.Causes.{marked_text_causes}
use Rattle.altdude_facts.specs.Codec.{codec}

-- marks may be 1, and the last characters of groups show them
abbrev pub marked_codec : MarkedCodec
marked_codec = record {
  codec = codec;
  keeps = true;
  encode_outcome = encode_marked_outcome;
  decode_outcome = decode_marked_outcome;
  label_with = λ marks t. marked marks (label_of t);
  marks_of = marks_of;
  text_causes = marked_text_causes;
  small_but_marks = small_but_last;
}
