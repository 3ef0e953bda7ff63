-- The parts of a row: they hold no dot, and are the only ones that do so and join back to it.
use Prim.Native.Nat.{ℕ}
use mathlib.Core.Path.{◌≡◌, refl, ap, ◌∙◌}
use mathlib.Core.Bool.{false}
use mathlib.Core.List.{List, [], ◌∷◌, ◌++◌, map}
use lib.Dec.{eqb}
use Rattle.basis.proofs.Tests.{cases}
use Rattle.host_name.specs.Parts.{dot, has_dot, join_first, parts_of, after_dots, joined}
use Rattle.host_name.proofs.Parts.{some-parts, empty-no-dot, dot-later}
use Rattle.host_name_facts.specs.Dotless.{Dotless}
use Rattle.host_name_facts.proofs.Dots.{no-dot-first, no-dot-later}

-- an element that is no dot before the first part leaves parts without a dot
dotless-first : (x : ℕ) (parts : List (List ℕ)) → eqb x dot ≡ false → Dotless parts → Dotless (join_first x parts)
unfolding join_first Dotless
dotless-first x [] e d = (dot-later x [] e ∙ empty-no-dot, tt)
dotless-first x (part ∷ parts) e d = (dot-later x part e ∙ d.0, d.1)

-- the parts of a row hold no dot
pub parts-dotless : (row : List ℕ) → Dotless (parts_of row)
unfolding parts_of Dotless
parts-dotless [] = (empty-no-dot, tt)
parts-dotless (x ∷ row) =
    cases (eqb x dot)
    (λ e. rw e (empty-no-dot, parts-dotless row))
    (λ e. rw e (dotless-first x (parts_of row) e (parts-dotless row)))

-- a row without a dot, before a row whose first part is empty, is the first part
parts-front : (part row : List ℕ) (parts : List (List ℕ)) → has_dot part ≡ false → parts_of row ≡ [] ∷ parts → parts_of (part ++ row) ≡ part ∷ parts
unfolding parts_of join_first
parts-front [] row parts h e = e
parts-front (x ∷ part) row parts h e = rw (no-dot-first x part h, parts-front part row parts (no-dot-later x part h) e)

-- the parts of parts without a dot, each after a dot, are an empty one and these
parts-after : (parts : List (List ℕ)) → Dotless parts → parts_of (after_dots parts) ≡ [] ∷ parts
unfolding parts_of after_dots Dotless
parts-after [] d = refl
parts-after (part ∷ parts) d = ap (λ (ps : List (List ℕ)). [] ∷ ps) (parts-front part (after_dots parts) parts d.0 (parts-after parts d.1))

-- parts without a dot are the parts of the row that they join to
pub parts-only : (part : List ℕ) (parts : List (List ℕ)) → Dotless (part ∷ parts) → parts_of (joined (part ∷ parts)) ≡ part ∷ parts
unfolding joined Dotless
parts-only part parts d = parts-front part (after_dots parts) parts d.0 (parts-after parts d.1)

-- parts that a function leaves without a dot are the parts of what it makes of the row
pub parts-mapped : (f : List ℕ → List ℕ) (row : List ℕ) → Dotless (map f (parts_of row)) → parts_of (joined (map f (parts_of row))) ≡ map f (parts_of row)
parts-mapped f row d = let (first, others, is) = some-parts row in rw is (parts-only (f first) (map f others) (rw is at d))

-- and a function that leaves every row without a dot leaves parts so
pub dotless-mapped : (f : List ℕ → List ℕ) → ((part : List ℕ) → has_dot part ≡ false → has_dot (f part) ≡ false)
    → (parts : List (List ℕ)) → Dotless parts → Dotless (map f parts)
unfolding Dotless
dotless-mapped f leaves [] d = tt
dotless-mapped f leaves (part ∷ parts) d = (leaves part d.0, dotless-mapped f leaves parts d.1)
