-- Host names as a codec, of which the claims speak.
use Rattle.std.specs.Prelude.{ℕ, ◌≡◌, List, map}
use Rattle.basis.specs.Tests.{pick}
use Rattle.basis.specs.Codec.{Codec}
use Rattle.ascii.specs.Case.{small}
use Rattle.ascii.specs.Prefix.{has_prefix}
use Rattle.lace_format.specs.Prefix.{prefix}
use Rattle.host_name.specs.Parts.{parts_of, joined}
use Rattle.host_name.specs.Answer.{name_of, text_of_name, encode_outcome, decode_outcome}
use Rattle.host_name_facts.specs.Causes.{text_causes, name_causes}

-- a label that begins lq-- in small letters, any other as it is
unfoldable pub small_part : List ℕ → List ℕ
small_part part = pick (has_prefix prefix part) (map small part) part

-- the name with its LACE labels in small letters
unfoldable pub small_lace : List ℕ → List ℕ
small_lace name = joined (map small_part (parts_of name))

-- a name counts as that of a text if only the case of its LACE labels may differ; texts are the same that are equal
abbrev pub codec : Codec
codec = record {
  encode_outcome = encode_outcome;
  decode_outcome = decode_outcome;
  label_of = name_of;
  text_of = text_of_name;
  text_causes = text_causes;
  label_causes = name_causes;
  SameLabel = λ text name. name_of text ≡ small_lace name;
  SameText = ◌≡◌;
}
