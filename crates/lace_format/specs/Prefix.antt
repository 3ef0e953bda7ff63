-- The prefix lq-- (the paper's mark).
use Rattle.std.specs.Prelude.{ℕ, List, [], ◌∷◌}

-- l q - -
abbrev pub prefix : List ℕ
prefix = 108 ∷ 113 ∷ 45 ∷ 45 ∷ []
