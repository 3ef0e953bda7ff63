-- Laws on parts, as they come from the library's `split`: the part that comes and those after it, what is answered for them in
-- turn, and how much of what is joined is left.
use Prim.Native.Nat.{ℕ, suc, ◌+◌}
use mathlib.Core.Path.{◌≡◌, refl, sym, ap, subst, ◌∙◌}
use mathlib.Core.Bool.{true, false}
use mathlib.Core.List.{List, [], ◌∷◌, ◌++◌}
use lib.Dec.{eqb}
use borrow.Author.Tests.{eqb-true, ne_eqb, lt-ltb, le-ltb}
use denote.Ref.{Bor}
use native.Mathlib.Numerals.{add-one}
use native.Mathlib.Omega.{arith}
use lib.ListN.{length}
use Rattle.std.specs.List.{list_any, slice_split, onto_first, enumerate_from}
use Rattle.std.proofs.Common.{Option, Some, None}
use Rattle.std.proofs.lemmas.Iterator.{YieldsList}
use Rattle.basis.specs.Outcome.{Outcome, done, refused, and_then}
use Rattle.basis.specs.Tests.{first_below}
use Rattle.basis.proofs.Tests.{cases, ltb-is}
use Rattle.basis.proofs.Outcome.{refusal-kept}
use Rattle.host_name.specs.Parts.{dot, first_dot, has_dot, join_first, parts_of, after_dots, joined}
use Rattle.host_name.specs.Answer.{in_turn}
use Rattle.host_name.specs.Internal.{dot_before}

onto-first : (x : ℕ) (parts : List (List ℕ)) → onto_first x parts ≡ join_first x parts
unfolding join_first
onto-first x [] = refl
onto-first x (part ∷ parts) = refl

-- the parts are those that the library's `split` gives
split-parts : (row : List ℕ) → slice_split (λ x. eqb x dot) row ≡ parts_of row
unfolding parts_of
split-parts [] = refl
split-parts (x ∷ row) = cases (eqb x dot) (λ e. rw (e, split-parts row)) (λ e. rw (e, split-parts row) (onto-first x (parts_of row)))

-- a row whose first element is a dot holds one; after any other element the rest decides
pub dot-first : (x : ℕ) (row : List ℕ) → eqb x dot ≡ true → has_dot (x ∷ row) ≡ true
unfolding has_dot first_dot first_below
dot-first x row e = lt-ltb (first_dot (x ∷ row)) (length (x ∷ row)) (rw e (omega arith))

pub dot-later : (x : ℕ) (row : List ℕ) → eqb x dot ≡ false → has_dot (x ∷ row) ≡ has_dot row
unfolding has_dot first_dot first_below
dot-later x row e =
    let next : first_dot (x ∷ row) ≡ suc (first_dot row) = rw e in
    ltb-is (first_dot (x ∷ row)) (length (x ∷ row)) (has_dot row) (λ h. lt-ltb (first_dot row) (length row) (omega arith)) (λ h. le-ltb (first_dot row) (length row) (omega arith))

-- the empty row holds none
pub empty-no-dot : has_dot [] ≡ false
unfolding has_dot first_dot first_below
empty-no-dot = refl

-- the library's `contains` finds whether a row holds a dot
pub holds-dot : (row : List ℕ) → list_any (λ x. eqb x dot) row ≡ has_dot row
holds-dot [] = sym empty-no-dot
holds-dot (x ∷ row) = cases (eqb x dot) (λ e. rw e (sym (dot-first x row e))) (λ e. rw e (holds-dot row ∙ sym (dot-later x row e)))

-- a row has one part at least
pub some-parts : (row : List ℕ) → (first : List ℕ) × (others : List (List ℕ)) × (parts_of row ≡ first ∷ others)
unfolding parts_of join_first
some-parts [] = ([], [], refl)
some-parts (x ∷ row) = cases (eqb x dot) (λ e. ([], parts_of row, rw e)) (λ e. let s = some-parts row in (x ∷ s.0, s.1, rw (e, s.2)))

-- parts that are joined begin with what was joined to the first; an empty part before others puts a dot before them
joined-first : (x : ℕ) (parts : List (List ℕ)) → joined (join_first x parts) ≡ x ∷ joined parts
unfolding join_first joined after_dots
joined-first x [] = refl
joined-first x (part ∷ parts) = refl

joined-after : (parts : List (List ℕ)) (first : List ℕ) (others : List (List ℕ)) → parts ≡ first ∷ others → joined ([] ∷ parts) ≡ dot ∷ joined parts
unfolding joined after_dots
joined-after parts first others e = rw e

-- the parts of a row join back to it
pub parts_join : (row : List ℕ) → joined (parts_of row) ≡ row
unfolding parts_of joined after_dots
parts_join [] = refl
parts_join (x ∷ row) =
    cases (eqb x dot)
    (λ e. let (first, others, is) = some-parts row in rw (e, joined-after (parts_of row) first others is, parts_join row, eqb-true x dot e))
    (λ e. rw (e, joined-first x (parts_of row), parts_join row))

-- what parts from this index on make, with a dot before each but the first
unfoldable pub left_from : ℕ → List (List ℕ) → List ℕ
left_from index [] = []
left_from index (part ∷ parts) = dot_before index ++ (part ++ after_dots parts)

pub left-first : (parts : List (List ℕ)) → left_from 0 parts ≡ joined parts
unfolding left_from joined
left-first [] = refl
left-first (part ∷ parts) = refl

pub left-next : (index : ℕ) (parts : List (List ℕ)) → left_from (index + 1) parts ≡ after_dots parts
unfolding left_from after_dots
left-next index [] = refl
left-next index (part ∷ parts) = rw (ne_eqb (index + 1) 0 (λ e. omega arith))

-- the parts from this index on are those to come, and those before them are answered in turn
pub record Turn (answer : List ℕ → Outcome) (row : List ℕ) {S : Type 0} (steps : S → Option (ℕ × Bor (List ℕ)) → S → Type 0) (s : S) (index : ℕ) (parts : List (List ℕ)) : Type 0 where
  pub comes : YieldsList steps (λ p. (p.0, p.1.now)) s (enumerate_from index parts)
  pub turns : (next : Outcome) → in_turn answer 0 (parts_of row) next ≡ in_turn answer index parts next

pub turn-first : (answer : List ℕ → Outcome) (row : List ℕ) {S : Type 0} {steps : S → Option (ℕ × Bor (List ℕ)) → S → Type 0} {s : S}
    → YieldsList steps (λ p. (p.0, p.1.now)) s (enumerate_from 0 (slice_split (λ x. eqb x dot) row)) → Turn answer row steps s 0 (parts_of row)
turn-first answer row {steps = steps} {s = s} y = record {
  comes = subst (λ ps. YieldsList steps (λ p. (p.0, p.1.now)) s (enumerate_from 0 ps)) (split-parts row) y;
  turns = λ next. refl;
}

module _ {answer : List ℕ → Outcome} {row : List ℕ} {S : Type 0} {steps : S → Option (ℕ × Bor (List ℕ)) → S → Type 0} {s t : S} where
  -- the part that comes
  pub turn-part : (index : ℕ) (parts : List (List ℕ)) → Turn answer row steps s index parts
      → {r : Option (ℕ × Bor (List ℕ))} {k : ℕ} {part : Bor (List ℕ)} → r ≡ Some (k, part) → steps s r t
      → (others : List (List ℕ)) × (parts ≡ part.now ∷ others) × (k ≡ index) × YieldsList steps (λ p. (p.0, p.1.now)) t (enumerate_from (index + 1) others)
  turn-part index [] u {k = k} {part = part} is step = absurd (u.comes.runs (k, part) t (subst (λ o. steps s o t) is step))
  turn-part index (first ∷ others) u {k = k} {part = part} is step =
      let m = u.comes.runs.1 (k, part) t (subst (λ o. steps s o t) is step) in
      (others, sym (ap (λ p. p.1 ∷ others) m.0), ap (λ p. p.0) m.0, record { runs = m.1 })

  -- no part comes any more
  pub turn-none : (index : ℕ) (parts : List (List ℕ)) → Turn answer row steps s index parts
      → {r : Option (ℕ × Bor (List ℕ))} → r ≡ None → steps s r t → parts ≡ []
  turn-none index [] u is step = refl
  turn-none index (first ∷ others) u is step = absurd (u.comes.runs.0 t (subst (λ o. steps s o t) is step))

module _ {answer : List ℕ → Outcome} {row : List ℕ} {S : Type 0} {steps : S → Option (ℕ × Bor (List ℕ)) → S → Type 0} {s : S} {index : ℕ} {parts : List (List ℕ)} (u : Turn answer row steps s index parts)
    (part : List ℕ) (others : List (List ℕ)) (is : parts ≡ part ∷ others) where
  -- the refusal of the part that comes is that of all
  pub turn-stops : {count number position : ℕ} (last next : Outcome) → last ≡ done count
      → and_then (λ _. index) (answer part) last ≡ refused number position → in_turn answer 0 (parts_of row) next ≡ refused number position
  unfolding in_turn
  turn-stops last next l e = u.turns next ∙ rw is (refusal-kept (λ _. index) _ last _ l e)

  -- if it is done, the next is at its turn
  pub turn_more : {count : ℕ} → answer part ≡ done count → {t : S} → YieldsList steps (λ p. (p.0, p.1.now)) t (enumerate_from (index + 1) others)
      → Turn answer row steps t (index + 1) others
  unfolding in_turn and_then
  turn_more e y = record {
    comes = y;
    turns = λ other. u.turns other ∙ rw (is, e, add-one index);
  }
