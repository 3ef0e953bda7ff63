-- A name with its LACE labels in small letters: the same but for case, part by part.
use Prim.Native.Nat.{ℕ}
use mathlib.Core.Path.{◌≡◌, refl, sym, ap, ap₂, ◌∙◌}
use mathlib.Core.Bool.{true, false}
use mathlib.Core.List.{List, [], ◌∷◌, ◌++◌, map, map-append}
use lib.Dec.{eqb}
use lib.ListN.{length, length-map}
use borrow.Author.Tests.{eqb-false, ne_eqb}
use native.Mathlib.Omega.{arith}
use Rattle.basis.specs.Rows.{at}
use Rattle.basis.proofs.Tests.{cases, by-lt}
use Rattle.ascii.specs.Case.{small, SameButCase}
use Rattle.ascii.specs.Prefix.{has_prefix}
use Rattle.ascii.proofs.Case.{small-below, small-inside, small-above, at_small, all_small, same-but-case}
use Rattle.ascii.proofs.Prefix.{prefix-small}
use Rattle.lace_format.specs.Prefix.{prefix}
use Rattle.host_name.specs.Parts.{dot, has_dot, parts_of, after_dots, joined}
use Rattle.host_name_facts.specs.Codec.{small_part, small_lace}
use Rattle.host_name_facts.proofs.Dots.{no-dot-at, at-no-dot}
use Rattle.host_name.proofs.Parts.{parts_join}
use Rattle.host_name_facts.proofs.Parts.{parts-dotless, parts-mapped, dotless-mapped}

-- the small form of what is no dot is none
small-no-dot : (b : ℕ) → eqb b dot ≡ false → eqb (small b) dot ≡ false
small-no-dot b e =
    ne_eqb (small b) dot
    (λ q.
    by-lt b 65
    (λ h. eqb-false b dot e (sym (small-below b h) ∙ q))
    (λ h. by-lt 90 b (λ g. omega (arith, small-above b g)) (λ g. omega (arith, small-inside b h g))))

module _ (part : List ℕ) where
  -- the small form of a part, by its beginning
  pub small-of-lace : has_prefix prefix part ≡ true → small_part part ≡ map small part
  unfolding small_part
  small-of-lace e = rw e

  pub small-of-plain : has_prefix prefix part ≡ false → small_part part ≡ part
  unfolding small_part
  small-of-plain e = rw e

  -- it begins lq-- exactly if the part does, differs from it at most in case, and holds no dot if the part holds none
  pub small-begins : has_prefix prefix (small_part part) ≡ has_prefix prefix part
  small-begins = cases (has_prefix prefix part) (λ e. ap (has_prefix prefix) (small-of-lace e) ∙ prefix-small prefix part) (λ e. ap (has_prefix prefix) (small-of-plain e))

  small-case : map small (small_part part) ≡ map small part
  small-case = cases (has_prefix prefix part) (λ e. ap (map small) (small-of-lace e) ∙ all_small part) (λ e. ap (map small) (small-of-plain e))

  small-dotless : has_dot part ≡ false → has_dot (small_part part) ≡ false
  small-dotless h =
      cases (has_prefix prefix part)
      (λ e. rw (small-of-lace e) (at-no-dot (map small part) (λ i g. rw (at_small part i) (small-no-dot (at part i) (no-dot-at part h i (rw length-map at g))))))
      (λ e. rw (small-of-plain e) h)

-- rows that differ at most in case, one after another, do so
append-case : (a b c d : List ℕ) → map small a ≡ map small b → map small c ≡ map small d → map small (a ++ c) ≡ map small (b ++ d)
append-case a b c d e f = map-append small a c ∙ ap₂ ◌++◌ e f ∙ sym (map-append small b d)

-- parts that differ at most in case join to rows that do so
module _ (f : List ℕ → List ℕ) (same : (part : List ℕ) → map small (f part) ≡ map small part) where
  after-case : (parts : List (List ℕ)) → map small (after_dots (map f parts)) ≡ map small (after_dots parts)
  unfolding after_dots
  after-case [] = refl
  after-case (part ∷ parts) = ap (λ (row : List ℕ). small dot ∷ row) (append-case (f part) part _ _ (same part) (after-case parts))

  joined-case : (parts : List (List ℕ)) → map small (joined (map f parts)) ≡ map small (joined parts)
  unfolding joined
  joined-case [] = refl
  joined-case (part ∷ parts) = append-case (f part) part _ _ (same part) (after-case parts)

-- the name is the same but for case
pub name-but-case : (name : List ℕ) → SameButCase (small_lace name) name
unfolding small_lace
name-but-case name = (same-but-case (small_lace name) name).1 (joined-case small_part small-case (parts_of name) ∙ ap (map small) (parts_join name))

-- so it is as long
pub name-as-long : (name : List ℕ) → length (small_lace name) ≡ length name
name-as-long name = (name-but-case name).equally_long

-- its parts are those of the name, each by itself
pub name-by-part : (name : List ℕ) → parts_of (small_lace name) ≡ map small_part (parts_of name)
unfolding small_lace
name-by-part name = parts-mapped small_part name (dotless-mapped small_part small-dotless (parts_of name) (parts-dotless name))
