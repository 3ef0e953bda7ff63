-- What reading the text of a body answers: 1 for fewer units than bytes.
use Rattle.std.specs.Prelude.{ℕ, List, ltb, length}
use Rattle.basis.specs.Outcome.{Outcome, done, refused_if}
use Rattle.brace_text.specs.Decoding.{body_text}

-- reading a body into a buffer of so many units
unfoldable pub body_outcome : ℕ → List ℕ → Outcome
body_outcome capacity body = refused_if (ltb capacity (length body)) 1 0 (done (length (body_text body)))
