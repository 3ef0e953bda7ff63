-- What private steps on a short table answer; no public promise cites it.
use Rattle.std.specs.Prelude.{ℕ, suc, ◌≤◌, ◌≡◌, List, length, drop, Result, Ok, Err}
use Rattle.basis.specs.Outcome.{Outcome, done, refused, and_then, number_of}
use Rattle.nametable_format.specs.Format.{header_length}
use Rattle.nametable.specs.Answer.{text_in}
use Rattle.nametable_short_format.specs.Format.{from_entry, long_of}
use Rattle.nametable_short_read.specs.Answer.{short_entry_judged, short_entries_judged}
use Rattle.basis.specs.declared.Refusal.{Refusal}
use Rattle.nametable_short_read.specs.declared.entries.Judged.{Judged}

-- reading one short entry by itself: the verdict on it, at the position; else the count of points
unfoldable pub short_entry_read : (least position : ℕ) → List ℕ → Outcome
short_entry_read least position e = and_then (λ _. position) (short_entry_judged least e) (done (length (text_in (long_of e))))

-- the entry at an index begins there
pub record BeginsAt (t : List ℕ) (index start : ℕ) : Type 0 where
  pub from : drop start t ≡ from_entry index (drop header_length t)
  pub inside : start ≤ length t

-- the entry that begins at a byte of the table as it was judged: with those after it, whatever
-- follows, it answers as they do from its end on, or it is refused
abbrev pub Stepped : (t : List ℕ) (start least index : ℕ) → Result Judged Refusal → Type 0
Stepped t start least index (Ok judged) =
    ((left total : ℕ) → short_entries_judged index least (suc left) (drop start t) total ≡ short_entries_judged (suc index) (suc judged.reader) left (drop judged.end t) total)
    × (judged.end ≤ length t)
Stepped t start least index (Err refusal) =
    (left total : ℕ) → short_entries_judged index least (suc left) (drop start t) total ≡ refused (number_of refusal.code) refusal.position
