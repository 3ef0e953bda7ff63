-- What private functions that store a row piece by piece promise; no public promise cites it.
use Rattle.std.specs.Prelude.{ℕ, ◌+◌, ◌≡◌, List, [], length}
use Rattle.std.proofs.lemmas.List.Edits.{sets}

-- of the values to be stored in the buffer old from an index on, those left are still to be stored, in the buffer now, from the
-- index at on
pub record StoringFrom (from : ℕ) (old values now : List ℕ) (at : ℕ) (left : List ℕ) : Type 0 where
  pub stores : sets now at left ≡ sets old from values
  pub count : at + length left ≡ from + length values
  pub long : length now ≡ length old

-- the same from the front of the buffer on
abbrev pub Storing : (old values now : List ℕ) (at : ℕ) (left : List ℕ) → Type 0
Storing old values now at left = StoringFrom 0 old values now at left

-- all of the piece is stored at an index, and next is the index after it
abbrev pub Stored : (old : List ℕ) (at : ℕ) (piece now : List ℕ) (next : ℕ) → Type 0
Stored old at piece now next = StoringFrom at old piece now next []
