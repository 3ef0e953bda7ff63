-- Laws on Base32's lists: octets as quintets and quintets as octets, there and back, and the rules of the form.
use Prim.Native.Nat.{ℕ, ◌+◌, ◌-◌, ◌*◌, ◌/◌, ◌%◌, ◌^◌, ◌≤◌, ◌<◌}
use mathlib.Core.Path.{◌≡◌, refl, sym, ap, ◌∙◌, fun_ext}
use mathlib.Core.Bool.{true, not, ◌||◌}
use mathlib.Core.List.{List}
use lib.Dec.{eqb}
use lib.ListN.{length}
use lib.Pow.{pow_pos}
use borrow.Author.Tests.{eq-eqb, eqb-true}
use native.Mathlib.Nat.{mul-add-mod_self_left}
use native.Mathlib.Omega.{arith}
use Rattle.basis.specs.Tests.{both, every}
use Rattle.basis.specs.Rows.{at, tabulate, AllBelow}
use Rattle.basis.proofs.Tests.{by-lt, both_left, both_right, both_true, at_each}
use Rattle.basis.proofs.Lists.{at-past, length-tabulate, tabulate-at, row-tabulate, tabulate-below, row_below}
use Rattle.base32.specs.Bits.{row_bit, group, regroup}
use Rattle.base32.specs.Form.{octet_count, length_lawful, spare_zero, is_lawful}
use Rattle.base32.specs.Base32.{quintet_count, to_quintets, to_octets}
use Rattle.base32.proofs.Bits.{row_bit-lt, zero_bits, row_bit-past, regroup-lt, regroup-back, regroup-past}

pub length-to_quintets : (os : List ℕ) → length (to_quintets os) ≡ quintet_count (length os)
unfolding to_quintets
length-to_quintets os = length-tabulate (quintet_count (length os)) (regroup 8 5 (at os))

pub length-to_octets : (qs : List ℕ) → length (to_octets qs) ≡ octet_count (length qs)
unfolding to_octets
length-to_octets qs = length-tabulate (octet_count (length qs)) (regroup 5 8 (at qs))

pub to_quintets-below : (os : List ℕ) → AllBelow 32 (to_quintets os)
unfolding to_quintets
to_quintets-below os = tabulate-below 32 (quintet_count (length os)) (regroup 8 5 (at os)) (regroup-lt 8 5 (at os))

pub to_octets-below : (qs : List ℕ) → AllBelow 256 (to_octets qs)
unfolding to_octets
to_octets-below qs = tabulate-below 256 (octet_count (length qs)) (regroup 5 8 (at qs)) (regroup-lt 5 8 (at qs))

-- a row of numbers of v bits comes back from n numbers of w bits, if nothing is left after them
module _ (v w n : ℕ) (xs : List ℕ) (p : 0 < w) (h : AllBelow (2 ^ v) xs) (none : (i : ℕ) → n ≤ i → regroup v w (at xs) i ≡ 0) where
  at_back : (i : ℕ) → regroup w v (at (tabulate n (regroup v w (at xs)))) i ≡ at xs i
  at_back i =
      ap (λ (row : ℕ → ℕ). regroup w v row i) (fun_ext (row-tabulate n (regroup v w (at xs)) none))
      ∙ regroup-back v w (at xs) p (row_below (2 ^ v) xs (pow_pos v) h) i

  list_back : (m : ℕ) → m ≡ length xs → tabulate m (regroup w v (at (tabulate n (regroup v w (at xs))))) ≡ xs
  list_back m e = ap (tabulate m) (fun_ext at_back) ∙ ap (λ (k : ℕ). tabulate k (at xs)) e ∙ tabulate-at xs

-- no quintet is left after those of the octets
quintets-past : (os : List ℕ) (i : ℕ) → quintet_count (length os) ≤ i → regroup 8 5 (at os) i ≡ 0
quintets-past os i h = regroup-past 8 (length os) (at os) (omega arith) (at-past os) 5 i (omega arith)

pub octets-back : (os : List ℕ) → AllBelow 256 os → to_octets (to_quintets os) ≡ os
unfolding to_octets to_quintets
octets-back os h =
    list_back 8 5 (quintet_count (length os)) os (omega arith) h (quintets-past os) (octet_count (length (to_quintets os))) (omega (arith, length-to_quintets os))

-- the spare bits of quintets are zero exactly when the octet after the last whole one is 0
pub spare-octet : (qs : List ℕ) → spare_zero qs ≡ eqb (regroup 5 8 (at qs) (octet_count (length qs))) 0
unfolding spare_zero regroup group
spare-octet qs =
    let m = octet_count (length qs) in
    zero_bits 8 (5 * length qs - 8 * m) (λ k. row_bit 5 (at qs) (8 * m + k)) (λ k. row_bit-lt 5 (at qs) (8 * m + k)) (omega arith)
    (λ k h. row_bit-past 5 (length qs) (at qs) (omega arith) (at-past qs) (8 * m + k) (omega arith))

-- no octet is left after the whole ones of quintets whose spare bits are zero
pub octets-past : (qs : List ℕ) → spare_zero qs ≡ true → (i : ℕ) → octet_count (length qs) ≤ i → regroup 5 8 (at qs) i ≡ 0
octets-past qs s i h =
    by-lt (octet_count (length qs)) i
    (λ g. regroup-past 5 (length qs) (at qs) (omega arith) (at-past qs) 8 i (omega arith))
    (λ g. let e : i ≡ octet_count (length qs) = omega arith in rw e (eqb-true _ 0 (sym (spare-octet qs) ∙ s)))

-- the lawful lengths are those of the quintets of octets
lawful-count : (n : ℕ) → length_lawful (quintet_count n) ≡ true
unfolding length_lawful every both
lawful-count n =
    let d : quintet_count n ≡ 8 * (n / 5) + quintet_count (n % 5) = omega arith in
    let e : quintet_count n % 8 ≡ quintet_count (n % 5) % 8 = ap (λ (k : ℕ). k % 8) d ∙ mul-add-mod_self_left 8 (n / 5) (quintet_count (n % 5)) in
    rw e (at_each 5 (λ r. length_lawful (quintet_count r)) refl (n % 5) (omega arith))

pub count-lawful : (n : ℕ) → length_lawful n ≡ true → quintet_count (octet_count n) ≡ n
unfolding length_lawful every both
count-lawful n l =
    let e : n % 8 % 8 ≡ n % 8 = omega arith in
    let r : length_lawful (n % 8) ≡ true = rw e l in
    let t = at_each 8 (λ r. not (length_lawful r) || eqb (quintet_count (octet_count r)) r) refl (n % 8) (omega arith) in
    let d : quintet_count (octet_count (n % 8)) ≡ n % 8 = eqb-true _ _ (rw r at t) in
    let a : octet_count n ≡ 5 * (n / 8) + octet_count (n % 8) = omega arith in
    let b : quintet_count (octet_count n) ≡ 8 * (n / 8) + quintet_count (octet_count (n % 8)) = ap quintet_count a ∙ omega arith in
    omega arith

pub quintets-lawful : (os : List ℕ) → AllBelow 256 os → is_lawful (to_quintets os) ≡ true
unfolding is_lawful to_quintets
quintets-lawful os h =
    let e : octet_count (length (to_quintets os)) ≡ length os = omega (arith, length-to_quintets os) in
    both_true (rw length-to_quintets (lawful-count (length os)))
    (spare-octet (to_quintets os) ∙ eq-eqb _ 0 (ap (regroup 5 8 (at (to_quintets os))) e ∙ at_back 8 5 (quintet_count (length os)) os (omega arith) h (quintets-past os) (length os) ∙ at-past os (length os) (omega arith)))

pub quintets-back : (qs : List ℕ) → AllBelow 32 qs → is_lawful qs ≡ true → to_quintets (to_octets qs) ≡ qs
unfolding to_quintets to_octets is_lawful
quintets-back qs h l =
    list_back 5 8 (octet_count (length qs)) qs (omega arith) h (octets-past qs (both_right _ _ l)) (quintet_count (length (to_octets qs))) (ap quintet_count (length-to_octets qs) ∙ count-lawful (length qs) (both_left _ _ l))
