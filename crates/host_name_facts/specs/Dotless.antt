-- Parts between dots.
use Rattle.std.specs.Prelude.{ℕ, ◌≡◌, false, List, [], ◌∷◌}
use Rattle.host_name.specs.Parts.{has_dot}

-- no part holds a dot
unfoldable pub Dotless : List (List ℕ) → Type 0
Dotless [] = Unit {0}
Dotless (part ∷ parts) = (has_dot part ≡ false) × Dotless parts
