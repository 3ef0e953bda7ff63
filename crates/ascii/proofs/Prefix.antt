-- Laws on a prefix: rows that begin with it, whatever their case, what follows it, and its
-- comparison byte by byte.
use Prim.Native.Nat.{ℕ, zero, suc, ◌≤◌, ◌<◌}
use mathlib.Core.Path.{◌≡◌, refl, sym, ap, ap₂, ◌∙◌, fun_ext}
use mathlib.Core.Bool.{Bool, true, false}
use mathlib.Core.List.{List, [], ◌∷◌, ◌++◌, map}
use lib.Dec.{eqb, leb}
use lib.ListN.{length, drop, get_or, length-map, length-append, get_or-append}
use Rattle.std.specs.Bool.{MatchBool}
use Rattle.std.specs.List.{zip, AllWithin, HoldsAt}
use Rattle.std.proofs.lemmas.Slice.Zip.{get_or-zip, length-zip}
use lib.Seq.{drop_at}
use borrow.Author.Tests.{leb-true, le-leb, lt-leb, eqb-true, eq-eqb}
use native.Mathlib.Omega.{arith}
use Rattle.basis.specs.Tests.{both, every}
use Rattle.basis.specs.Rows.{at}
use Rattle.basis.proofs.Tests.{both_left, both_right, both_true, at_each, not-each, each_at}
use Rattle.ascii.specs.Case.{small}
use Rattle.ascii.specs.Prefix.{has_prefix, after_prefix}
use Rattle.ascii.proofs.Case.{small-small, at_small}

-- the element of the row at an index is that of the prefix, case ignored
abbrev pub same_at : List ℕ → List ℕ → ℕ → Bool
same_at prefix l i = eqb (small (at l i)) (small (at prefix i))

-- the front of a row, as long as the prefix, beside the prefix: alike in every pair, or in one not
paired_at : (p l : List ℕ) (k : ℕ) → length p ≤ length l → k < length p → eqb (small (get_or (zip l p) k (0, 0)).0) (small (get_or (zip l p) k (0, 0)).1) ≡ same_at p l k
paired_at p l k h g = ap (λ (x : ℕ × ℕ). eqb (small x.0) (small x.1)) (get_or-zip l p k (0, 0) (omega arith) g)

pub pairs-alike : (p l : List ℕ) → length p ≤ length l → (r : Bool)
    → MatchBool r (AllWithin (λ x. eqb (small x.0) (small x.1) ≡ true) (zip l p) 0 (length (zip l p)))
    ((k : ℕ) × (k < length (zip l p)) × HoldsAt (λ x. eqb (small x.0) (small x.1) ≡ false) (zip l p) k)
    → r ≡ every (length p) (same_at p l)
pairs-alike p l h true e = sym (each_at (length p) _ (λ k g. sym (paired_at p l k h g) ∙ e k (0, 0) (omega arith) (omega (arith, length-zip l p))))
pairs-alike p l h false e =
    let g : e.0 < length p = omega (arith, length-zip l p, e.1) in
    sym (not-each (length p) _ e.0 g (sym (paired_at p l e.0 h g) ∙ e.2 (0, 0)))

module _ (prefix l : List ℕ) where
  -- a row that has the prefix
  module _ (has : has_prefix prefix l ≡ true) where
    pub prefix-long : length prefix ≤ length l
    unfolding has_prefix
    prefix-long = leb-true _ _ (both_left _ _ has)

    pub prefix-spelled : map small l ≡ map small prefix ++ map small (after_prefix prefix l)
    unfolding has_prefix
    prefix-spelled = front prefix l prefix-long (λ i h. eqb-true _ _ (at_each _ _ (both_right _ _ has) i h))
      where
        front : (p l : List ℕ) → length p ≤ length l → ((i : ℕ) → i < length p → small (at l i) ≡ small (at p i)) → map small l ≡ map small p ++ map small (drop (length p) l)
        front [] l h e = refl
        front (x ∷ p) [] h e = absurd (omega arith)
        front (x ∷ p) (b ∷ l) h e = ap₂ ◌∷◌ (e 0 (omega arith)) (front p l (omega arith) (λ i g. e (suc i) (omega arith)))

  -- the comparison: the row is too short, or the bytes decide
  pub prefix-short : length l < length prefix → false ≡ has_prefix prefix l
  unfolding has_prefix both
  prefix-short h = rw (lt-leb (length prefix) (length l) h)

  pub prefix-compared : length prefix ≤ length l → (same : Bool) → same ≡ every (length prefix) (same_at prefix l) → same ≡ has_prefix prefix l
  unfolding has_prefix both
  prefix-compared h same e = rw (le-leb (length prefix) (length l) h) e

  -- the small form of a row
  pub prefix-small : has_prefix prefix (map small l) ≡ has_prefix prefix l
  unfolding has_prefix
  prefix-small =
      ap₂ both (ap (leb (length prefix)) (length-map l small))
      (ap (every (length prefix)) (fun_ext (λ i. ap (λ (x : ℕ). eqb x (small (at prefix i))) (ap small (at_small l i) ∙ small-small (at l i)))))

  pub after_small : after_prefix prefix (map small l) ≡ map small (after_prefix prefix l)
  after_small = drop-map (length prefix) l
    where
      drop-map : (n : ℕ) (l : List ℕ) → drop n (map small l) ≡ map small (drop n l)
      drop-map zero l = refl
      drop-map (suc n) [] = refl
      drop-map (suc n) (x ∷ l) = drop-map n l

-- the prefix put before a row
module _ (prefix rest : List ℕ) where
  pub prefix-front : has_prefix prefix (prefix ++ rest) ≡ true
  unfolding has_prefix
  prefix-front =
      both_true (le-leb (length prefix) (length (prefix ++ rest)) (omega (arith, length-append prefix rest)))
      (each_at _ _ (λ i h. eq-eqb _ _ (ap small (get_or-append prefix rest 0 i h))))

  pub after_front : after_prefix prefix (prefix ++ rest) ≡ rest
  after_front = drop_at prefix rest (length prefix) refl
