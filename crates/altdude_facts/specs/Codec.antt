-- AltDUDE as a codec, of which the demands speak.
use Rattle.std.specs.Prelude.{◌≡◌}
use Rattle.basis.specs.Codec.{Codec}
use Rattle.ascii.specs.Case.{SameButCase}
use Rattle.altdude.specs.Encoding.{label_of}
use Rattle.altdude.specs.Decoding.{text_of}
use Rattle.altdude.specs.Answer.{encode_outcome, decode_outcome}
use Rattle.altdude_facts.specs.Causes.{text_causes, label_causes}

-- labels are the same that differ at most in case, and texts that are equal
abbrev pub codec : Codec
codec = record {
  encode_outcome = encode_outcome;
  decode_outcome = decode_outcome;
  label_of = label_of;
  text_of = text_of;
  text_causes = text_causes;
  label_causes = label_causes;
  SameLabel = λ t l. SameButCase (label_of t) l;
  SameText = ◌≡◌;
}
