-- BRACE as a codec, of which the demands speak: of units, and of points.
use Rattle.basis.specs.Codec.{Codec}
use Rattle.ascii.specs.Case.{SameButCase}
use Rattle.utf16.specs.Units.{to_units}
use Rattle.brace_symbols.specs.Encoding.{label_of}
use Rattle.brace_text.specs.Decoding.{text_of}
use Rattle.brace.specs.Answer.{encode_outcome, decode_outcome}
use Rattle.brace.specs.Points as points
use Rattle.brace_facts.specs.Causes.{text_causes, points_causes, label_causes, Spells, SpellsUnits}

-- of units: copied letters count byte for byte, all else but for case; texts are the same that differ
-- at most in case
abbrev pub codec : Codec
codec = record {
  encode_outcome = encode_outcome;
  decode_outcome = decode_outcome;
  label_of = label_of;
  text_of = text_of;
  text_causes = text_causes;
  label_causes = label_causes;
  SameLabel = SpellsUnits;
  SameText = SameButCase;
}

-- of points: the same of their units
abbrev pub points_codec : Codec
points_codec = record {
  encode_outcome = points.encode_outcome;
  decode_outcome = points.decode_outcome;
  label_of = points.label_of;
  text_of = points.text_of;
  text_causes = points_causes;
  label_causes = label_causes;
  SameLabel = λ t l. Spells (to_units t) l;
  SameText = SameButCase;
}
