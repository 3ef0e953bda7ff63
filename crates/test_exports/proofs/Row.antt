-- Laws on the row that the five numbers of an answer are stored in.
use Prim.Native.Nat.{ℕ, ◌≤◌, ◌<◌}
use mathlib.Core.Path.{◌≡◌}
use mathlib.Core.List.{List, [], ◌∷◌}
use lib.ListN.{length}
use lib.Seq.{sets}
use borrow.Author.Tests.{lt-ltb, le-ltb}
use Rattle.basis.proofs.Lists.{sets-front}
use Rattle.test_exports.specs.Answer.{answer_after}

-- a row that is too short is left
pub row-left : (numbers row : List ℕ) → length row < 5 → row ≡ answer_after numbers row
unfolding answer_after
row-left numbers row few = rw (lt-ltb (length row) 5 few)

-- five stores from the front
pub row-stored : (code position count reader scheme : ℕ) (row : List ℕ) → 5 ≤ length row
    → sets row 0 (code ∷ position ∷ count ∷ reader ∷ scheme ∷ []) ≡ answer_after (code ∷ position ∷ count ∷ reader ∷ scheme ∷ []) row
unfolding answer_after
row-stored code position count reader scheme row enough =
    rw (le-ltb (length row) 5 enough) (sets-front (code ∷ position ∷ count ∷ reader ∷ scheme ∷ []) row enough)
