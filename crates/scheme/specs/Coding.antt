-- The codec of each scheme, and what it answers.
use Rattle.std.specs.Prelude.{ℕ, List}
use Rattle.basis.specs.Outcome.{Outcome}
use Rattle.basis.specs.Codec.{Codec}
use Rattle.altdude_facts.specs.Codec as altdude
use Rattle.lace_facts.specs.Codec as lace
use Rattle.brace_facts.specs.Codec as brace
use Rattle.scheme.specs.declared.Scheme.{Scheme}
use Rattle.scheme.specs.declared.Scheme.TheVariants.{Altdude, Lace, Brace}

-- a scheme's codec
abbrev pub codec_of : Scheme → Codec
codec_of Altdude = altdude.codec
codec_of Lace = lace.codec
codec_of Brace = brace.points_codec

-- what encoding answers at a capacity
abbrev pub encode_outcome : Scheme → ℕ → List ℕ → Outcome
encode_outcome s = (codec_of s).encode_outcome

-- what decoding answers at a capacity
abbrev pub decode_outcome : Scheme → ℕ → List ℕ → Outcome
decode_outcome s = (codec_of s).decode_outcome

-- the label of a text
abbrev pub label_of : Scheme → List ℕ → List ℕ
label_of s = (codec_of s).label_of

-- the text of a label
abbrev pub text_of : Scheme → List ℕ → List ℕ
text_of s = (codec_of s).text_of
