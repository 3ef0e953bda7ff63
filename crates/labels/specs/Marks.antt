-- What is asked of a row of marks. A text has one mark for each point: 1 where the point was a capital, else 0.
use Rattle.std.specs.Prelude.{ℕ, Bool, not, ◌||◌, List, eqb, ltb, length}
use Rattle.basis.specs.Tests.{both, first_below}
use Rattle.basis.specs.Rows.{at, tabulate}
use Rattle.basis.specs.Outcome.{Outcome, refused_if}

-- the mark may be on the point: 0, or, where the scheme keeps marks, 1 on what is no hyphen
unfoldable pub may_mark : (keeps : Bool) (point mark : ℕ) → Bool
may_mark keeps point mark = eqb mark 0 || both keeps (both (eqb mark 1) (not (eqb point 45)))

-- the index of the first point with a mark that may not be on it, or the number of points
unfoldable pub first_bad_mark : (keeps : Bool) (text marks : List ℕ) → ℕ
first_bad_mark keeps t marks = first_below (length t) (λ i. not (may_mark keeps (at t i) (at marks i)))

-- the marks of a text that is to be written, before what follows: 15 at 0 for a row of another length, else 15 at the first
-- mark that may not be there
unfoldable pub marks_tests : (keeps : Bool) (text marks : List ℕ) → Outcome → Outcome
marks_tests keeps t marks next =
    refused_if (not (eqb (length marks) (length t))) 15 0
    (refused_if (ltb (first_bad_mark keeps t marks) (length t)) 15 (first_bad_mark keeps t marks)
    next)

-- so many marks of 0
unfoldable pub no_marks : ℕ → List ℕ
no_marks count = tabulate count (λ _. 0)
