-- What private steps require; no public promise cites it.
use Rattle.std.specs.Prelude.{ℕ, ◌≤◌, ◌≡◌, List, length}
use Rattle.basis.specs.Outcome.{done}
use Rattle.nametable_format.specs.Format.{text_capacity}
use Rattle.nametable.specs.Answer.{judged_entry_outcome, entry_text}

-- the entry at the index is found, given the room
abbrev pub Found : List ℕ → ℕ → Type 0
Found table index = (capacity : ℕ) → text_capacity ≤ capacity → judged_entry_outcome table index capacity ≡ done (length (entry_text table index))

-- the room for all lines of the fullest table
abbrev pub listing_room : ℕ
listing_room = 300000
