-- Laws on small forms: what reading and writing make of the small form of a byte or an element.
use Prim.Native.Nat.{ℕ, zero, suc, ◌+◌, ◌*◌, ◌/◌, ◌%◌, ◌^◌}
use mathlib.Core.Path.{◌≡◌, refl, sym, ap, ◌∙◌}
use mathlib.Core.Bool.{Bool, true, false}
use mathlib.Core.List.{List, [], ◌∷◌, map}
use lib.ListN.{take, drop}
use borrow.Author.Tests.{lt-ltb, le-ltb}
use native.Mathlib.Omega.{arith}
use Rattle.ascii.specs.Case.{small}
use Rattle.basis.proofs.Tests.{by-lt, true-not-false}
use Rattle.ascii.proofs.Case.{small-inside, small-below, small-above, small-small}
use Rattle.ascii.proofs.EdgeHyphen.{small-keeps-hyphen}
use Rattle.ascii.specs.Ldh.{is_ldh}
use Rattle.ascii.proofs.Ldh.{ldh-capital, ldh-small}
use Rattle.alphabet.specs.Alphabet.{value_of}
use Rattle.alphabet.proofs.Inverse.{value_same}
use Rattle.copying.specs.Symbols.{byte_of, bytes_of, quintet_of, quintets, head_number}
use Rattle.copying.specs.Modes.{next_mode, switch_if, copying_after}
use Rattle.copying.specs.declared.Mode.{Mode}
use Rattle.copying.proofs.Bytes.{ldh-from}

-- an element and its small form are LDH together
pub ldh-same : (u : ℕ) → is_ldh (small u) ≡ is_ldh u
ldh-same u =
    by-lt u 65
    (λ h. rw (small-below u h))
    (λ h. by-lt 90 u
    (λ g. rw (small-above u g))
    (λ g. rw (small-inside u h g, ← (ldh-small (u + 32) (omega arith) (omega arith)), ← (ldh-capital u (omega arith) h (omega arith)))
    (lt-ltb (u + 32) 123 (omega arith))))

-- an element that is not LDH is its own small form
pub other-small : (u : ℕ) → is_ldh u ≡ false → small u ≡ u
other-small u e =
    by-lt u 65
    (small-below u)
    (λ h. by-lt 90 u
    (small-above u)
    (λ g. absurd (true-not-false (sym (ldh-capital u (omega arith) h (omega arith))) e)))

-- the mode after a byte, and whether letters are being copied after an element, ignore case
pub mode_small : (m : Mode) (b : ℕ) → next_mode m (small b) ≡ next_mode m b
unfolding next_mode
mode_small m b = rw small-keeps-hyphen

pub copying-small : (copying : Bool) (u : ℕ) → copying_after copying (small u) ≡ copying_after copying u
unfolding copying_after
copying-small copying u = rw (small-keeps-hyphen u, ldh-same u)

-- the parts of a row of small forms
pub drop-small : (n : ℕ) (l : List ℕ) → drop n (map small l) ≡ map small (drop n l)
drop-small zero l = refl
drop-small (suc n) [] = refl
drop-small (suc n) (b ∷ l) = drop-small n l

pub take-small : (n : ℕ) (l : List ℕ) → take n (map small l) ≡ map small (take n l)
take-small zero l = refl
take-small (suc n) [] = refl
take-small (suc n) (b ∷ l) = ap (λ (r : List ℕ). small b ∷ r) (take-small n l)

-- the value of a byte does not look at its case
module _ (alphabet : List ℕ) where
  pub value-small : (b : ℕ) → value_of alphabet (small b) ≡ value_of alphabet b
  value-small b = value_same alphabet (small b) b (small-small b)

  pub quintet-small : (b : ℕ) → quintet_of alphabet (small b) ≡ quintet_of alphabet b
  unfolding quintet_of
  quintet-small b = rw value-small

  pub head-number-small : (n x : ℕ) (l : List ℕ) → head_number alphabet n x (map small l) ≡ head_number alphabet n x l
  unfolding head_number
  head-number-small zero x l = refl
  head-number-small (suc n) x [] = refl
  head-number-small (suc n) x (b ∷ l) = rw quintet-small (head-number-small n (x * 32 + quintet_of alphabet b) l)

-- the small forms of the bytes of symbols
module _ (alphabet : List ℕ) (form : ℕ → ℕ) where
  abbrev pub folded : List ℕ → List ℕ
  folded symbols = map small (bytes_of alphabet form symbols)

  pub quintets-folded : (n z : ℕ) (x y : List ℕ) → folded x ≡ folded y → folded (quintets n z x) ≡ folded (quintets n z y)
  unfolding quintets bytes_of
  quintets-folded zero z x y q = q
  quintets-folded (suc n) z x y q = ap (λ (r : List ℕ). small (byte_of alphabet form (z / 2 ^ (5 * n) % 32)) ∷ r) (quintets-folded n z x y q)

  pub switch-folded : (b : Bool) (x y : List ℕ) → folded x ≡ folded y → folded (switch_if b x) ≡ folded (switch_if b y)
  unfolding switch_if bytes_of
  switch-folded true x y q = ap (λ (r : List ℕ). small (byte_of alphabet form 45) ∷ r) q
  switch-folded false x y q = q

  pub letter-folded : (u : ℕ) → is_ldh u ≡ true → small (byte_of alphabet form (small u)) ≡ small (byte_of alphabet form u)
  unfolding byte_of
  letter-folded u e =
      let h = ldh-from u e in
      let g = ldh-from (small u) (ldh-same u ∙ e) in
      rw (le-ltb u 32 (omega arith), le-ltb (small u) 32 (omega arith)) (small-small u)
