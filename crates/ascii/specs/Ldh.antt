-- LDH: the hyphen (45), digits, A to Z and a to z; rows of them, edge hyphens, and host labels.
use Rattle.std.specs.Prelude.{ℕ, ◌-◌, Bool, not, ◌||◌, List, eqb, length}
use Rattle.basis.specs.Tests.{both, within, every_in}
use Rattle.basis.specs.Rows.{at}

-- the hyphen, a digit, A to Z or a to z
unfoldable pub is_ldh : ℕ → Bool
is_ldh x = eqb x 45 || within 48 57 x || within 65 90 x || within 97 122 x

-- all are LDH
unfoldable pub is_all_ldh : List ℕ → Bool
is_all_ldh xs = every_in is_ldh xs

-- the first or the last element is a hyphen
unfoldable pub has_edge_hyphen : List ℕ → Bool
has_edge_hyphen xs = eqb (at xs 0) 45 || eqb (at xs (length xs - 1)) 45

-- a host label: all LDH, 1 to 63 long, no hyphen at either end
unfoldable pub is_host_label : List ℕ → Bool
is_host_label xs = both (is_all_ldh xs) (both (within 1 63 (length xs)) (not (has_edge_hyphen xs)))
