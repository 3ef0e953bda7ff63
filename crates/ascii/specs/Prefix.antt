-- A fixed prefix, known in either case, and what follows it.
use Rattle.std.specs.Prelude.{ℕ, Bool, List, eqb, leb, length, drop}
use Rattle.basis.specs.Tests.{both, every}
use Rattle.basis.specs.Rows.{at}
use Rattle.ascii.specs.Case.{small}

-- the row begins with the prefix, case ignored
unfoldable pub has_prefix : List ℕ → List ℕ → Bool
has_prefix prefix xs = both (leb (length prefix) (length xs)) (every (length prefix) (λ i. eqb (small (at xs i)) (small (at prefix i))))

-- what follows as many elements as the prefix has
abbrev pub after_prefix : List ℕ → List ℕ → List ℕ
after_prefix prefix xs = drop (length prefix) xs
