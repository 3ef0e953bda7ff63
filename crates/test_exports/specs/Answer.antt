-- The five numbers of what a function answered, and the row that they are stored in.
use Rattle.std.specs.Prelude.{ℕ, List, [], ◌∷◌, ◌++◌, ltb, length, drop}
use Rattle.basis.specs.Tests.{pick}
use Rattle.basis.specs.Outcome.{Outcome, done, refused}
use Rattle.nametable.specs.Answer.{EntryOutcome, found, not_found}

-- code (0 when done), position, count, and 0 twice
unfoldable pub numbers_of : Outcome → List ℕ
numbers_of (done count) = 0 ∷ 0 ∷ count ∷ 0 ∷ 0 ∷ []
numbers_of (refused number position) = number ∷ position ∷ 0 ∷ 0 ∷ 0 ∷ []

-- the same of an entry of a table, with its reader number and scheme number
unfoldable pub entry_numbers_of : EntryOutcome → List ℕ
entry_numbers_of (found reader scheme count) = 0 ∷ 0 ∷ count ∷ reader ∷ scheme ∷ []
entry_numbers_of (not_found number position) = number ∷ position ∷ 0 ∷ 0 ∷ 0 ∷ []

-- the row afterwards: the five numbers and then what it held; a row of fewer than five elements
-- holds what it held
unfoldable pub answer_after : List ℕ → List ℕ → List ℕ
answer_after numbers row = pick (ltb (length row) 5) row (numbers ++ drop 5 row)
