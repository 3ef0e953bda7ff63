-- Laws on bytes that are read as symbols.
use Prim.Native.Nat.{ℕ, suc, ◌≤◌, ◌<◌}
use mathlib.Core.Path.{◌≡◌, refl, ap, ap₂, ◌∙◌}
use mathlib.Core.Bool.{true, false}
use mathlib.Core.List.{List, [], ◌∷◌, ◌++◌}
use lib.Dec.{eqb}
use lib.ListN.{length, take, drop}
use borrow.Author.Tests.{eqb-true, ne_eqb, lt-ltb, le-ltb}
use native.Mathlib.Omega.{arith}
use native.Mathlib.Nat.{mod-eq_of_lt}
use Rattle.basis.specs.Tests.{every, every_in}
use Rattle.ascii.specs.Case.{small}
use Rattle.basis.proofs.Tests.{by-lt, both_left, both_right, both_true, true-not-false}
use Rattle.ascii.proofs.Case.{small-below}
use Rattle.ascii.specs.Ldh.{is_ldh}
use Rattle.ascii.proofs.Ldh.{ldh-under}
use Rattle.alphabet.specs.Alphabet.{value_of, is_alphabet}
use Rattle.alphabet.proofs.Inverse.{character-no-hyphen, character-value}
use Rattle.copying.specs.Symbols.{byte_of, bytes_of, is_for, are_for, quintet_of}

-- an LDH element is 45 or more
pub ldh-from : (u : ℕ) → is_ldh u ≡ true → 45 ≤ u
ldh-from u e =
    by-lt u 45
    (λ h. absurd (true-not-false (ldh-under u (omega arith) ∙ e) (ne_eqb u 45 (λ q. omega arith))))
    (λ h. h)

pub hyphen-ldh : is_ldh 45 ≡ true
unfolding is_ldh
hyphen-ldh = refl

module _ (alphabet : List ℕ) where
  -- the byte of a copied symbol is that symbol
  pub copied_is : (s b : ℕ) → 32 ≤ s → is_for alphabet s b ≡ true → b ≡ s
  unfolding is_for
  copied_is s b h e = eqb-true b s (rw (le-ltb s 32 h) at e)

  -- bytes that are read as symbols are as many
  pub spelled-length : (symbols l : List ℕ) → are_for alphabet symbols l ≡ true → length symbols ≡ length l
  unfolding are_for
  spelled-length [] [] e = refl
  spelled-length [] (b ∷ l) e = absurd (true-not-false e refl)
  spelled-length (s ∷ symbols) [] e = absurd (true-not-false e refl)
  spelled-length (s ∷ symbols) (b ∷ l) e = ap suc (spelled-length symbols l (both_right (is_for alphabet s b) (are_for alphabet symbols l) e))

  -- those of two rows of symbols, one after the other
  pub spelled-left : (xs ys l : List ℕ) → are_for alphabet (xs ++ ys) l ≡ true → are_for alphabet xs (take (length xs) l) ≡ true
  unfolding are_for
  spelled-left [] ys l e = refl
  spelled-left (x ∷ xs) ys [] e = absurd (true-not-false e refl)
  spelled-left (x ∷ xs) ys (b ∷ l) e = both_true (both_left (is_for alphabet x b) _ e) (spelled-left xs ys l (both_right (is_for alphabet x b) _ e))

  pub spelled-right : (xs ys l : List ℕ) → are_for alphabet (xs ++ ys) l ≡ true → are_for alphabet ys (drop (length xs) l) ≡ true
  unfolding are_for
  spelled-right [] ys l e = e
  spelled-right (x ∷ xs) ys [] e = absurd (true-not-false e refl)
  spelled-right (x ∷ xs) ys (b ∷ l) e = spelled-right xs ys l (both_right (is_for alphabet x b) _ e)

  -- LDH is copied: the bytes that are read as LDH are the same, and so are those written
  pub ldh-spelled : (t l : List ℕ) → every_in is_ldh t ≡ true → are_for alphabet t l ≡ true → l ≡ t
  unfolding are_for every
  ldh-spelled [] [] a e = refl
  ldh-spelled [] (b ∷ l) a e = absurd (true-not-false e refl)
  ldh-spelled (u ∷ t) [] a e = absurd (true-not-false e refl)
  ldh-spelled (u ∷ t) (b ∷ l) a e =
      ap₂ ◌∷◌ (copied_is u b (omega (arith, ldh-from u (both_left (is_ldh u) _ a))) (both_left (is_for alphabet u b) (are_for alphabet t l) e))
      (ldh-spelled t l (both_right (is_ldh u) _ a) (both_right (is_for alphabet u b) (are_for alphabet t l) e))

  pub ldh-bytes : (form : ℕ → ℕ) (t : List ℕ) → every_in is_ldh t ≡ true → bytes_of alphabet form t ≡ t
  unfolding bytes_of byte_of every
  ldh-bytes form [] e = refl
  ldh-bytes form (u ∷ t) e = ap₂ ◌∷◌ (rw (le-ltb u 32 (omega (arith, ldh-from u (both_left (is_ldh u) _ e))))) (ldh-bytes form t (both_right (is_ldh u) _ e))

  -- the byte of a coded one has its value, and is no hyphen
  module _ (s b : ℕ) (h : s < 32) (e : is_for alphabet s b ≡ true) where
    pub coded-value : value_of alphabet b ≡ s
    unfolding is_for
    coded-value = eqb-true (value_of alphabet b) s (rw (lt-ltb s 32 h) at e)

    pub coded-quintet : quintet_of alphabet b ≡ s
    unfolding quintet_of
    coded-quintet = rw coded-value (mod-eq_of_lt h)

    pub coded-no-hyphen : is_alphabet alphabet ≡ true → eqb b 45 ≡ false
    coded-no-hyphen test =
        ne_eqb b 45
        (λ q.
        let v : value_of alphabet b < 32 = rw coded-value h in
        let z : small b ≡ 45 = ap small q ∙ small-below 45 (omega arith) in
        character-no-hyphen alphabet test (value_of alphabet b) (character-value alphabet test b v ∙ z))
