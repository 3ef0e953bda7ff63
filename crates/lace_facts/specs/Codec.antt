-- LACE as a codec, of which the demands speak.
use Rattle.std.specs.Prelude.{◌≡◌}
use Rattle.basis.specs.Codec.{Codec}
use Rattle.ascii.specs.Case.{SameButCase}
use Rattle.ascii.specs.Ldh.{is_host_label}
use Rattle.lace_encoding.specs.Encoding.{label_of}
use Rattle.lace_decoding.specs.Decoding.{text_of}
use Rattle.lace.specs.Answer.{encode_outcome, decode_outcome}
use Rattle.lace_facts.specs.Causes.{text_causes, label_causes}

-- labels are the same that differ at most in case, and texts that are equal
abbrev pub codec : Codec
codec = record {
  encode_outcome = encode_outcome is_host_label;
  decode_outcome = decode_outcome is_host_label;
  label_of = label_of;
  text_of = text_of;
  text_causes = text_causes;
  label_causes = label_causes;
  SameLabel = λ t l. SameButCase (label_of t) l;
  SameText = ◌≡◌;
}
