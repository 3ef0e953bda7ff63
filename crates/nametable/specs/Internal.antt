-- What private steps on an entry answer; no public promise cites it.
use Rattle.std.specs.Prelude.{ℕ, ◌+◌, ◌≤◌, ◌≡◌, List, Option, Some, None}
use Rattle.basis.specs.Outcome.{Outcome, refused}
use Rattle.nametable_format.specs.Format.{label_capacity, label_start, reader_of, length_of, scheme_in}
use Rattle.nametable.specs.Answer.{form_tests}
use Rattle.nametable.specs.declared.entries.Form.{Form}

-- the form of an entry as it was tested: its tests are passed, whatever follows, and its parts are
-- these, or one refuses
abbrev pub Tested : (least : ℕ) → List ℕ → Option Form → Type 0
Tested least e (Some form) =
    ((next : Outcome) → form_tests 1 label_capacity least e next ≡ next)
    × (scheme_in e ≡ form.scheme) × (reader_of e ≡ form.reader) × (form.end ≡ label_start + length_of e) × (length_of e ≤ label_capacity)
Tested least e None = (next : Outcome) → form_tests 1 label_capacity least e next ≡ refused 14 0
