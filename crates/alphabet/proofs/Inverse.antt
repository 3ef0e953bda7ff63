-- Character and value are inverse over any alphabet that passes the test, and all three pass it.
use Prim.Native.Nat.{ℕ, ◌≤◌, ◌<◌}
use mathlib.Core.Path.{◌≡◌, refl, sym, ap, ◌∙◌}
use mathlib.Core.Bool.{true, false, ◌||◌, not}
use mathlib.Core.Logic.{◌↔◌}
use mathlib.Core.List.{List}
use lib.Dec.{eqb}
use lib.ListN.{length}
use borrow.Author.Tests.{eqb-true, lt-ltb}
use native.Mathlib.Omega.{arith}
use Rattle.basis.specs.Tests.{both, within, every, first_below, first_in}
use Rattle.basis.specs.Rows.{at}
use Rattle.basis.proofs.Tests.{cases, by-lt, both_left, both_right, within_low, at_each, first-le, first-here}
use Rattle.basis.proofs.Lists.{at-past}
use Rattle.ascii.specs.Case.{small, SameLetter}
use Rattle.ascii.proofs.Case.{small-small, small-or-digit, letter-same, same-letter}
use Rattle.alphabet.specs.Alphabet.{altdude, lace, brace, character_of, value_of, is_alphabet, is_distinct, is_character}

-- the value looks at the small form alone
pub value_same : (alphabet : List ℕ) (a b : ℕ) → small a ≡ small b → value_of alphabet a ≡ value_of alphabet b
unfolding value_of
value_same alphabet a b e = ap (λ (x : ℕ). first_in (eqb x) alphabet) e

-- a byte whose value is 32 has none
pub no-character : (alphabet : List ℕ) (byte value : ℕ) → value ≡ value_of alphabet byte → value ≡ 32 → not (is_character alphabet byte) ≡ true
unfolding is_character
no-character alphabet byte value e q = rw (← e, q)

module _ (alphabet : List ℕ) (test : is_alphabet alphabet ≡ true) where
  pub length-alphabet : length alphabet ≡ 32
  unfolding is_alphabet
  length-alphabet = eqb-true (length alphabet) 32 (both_left _ _ test)

  -- every element is a small letter or a digit
  small-or-digit-at : (q : ℕ) → q < 32 → (within 97 122 (at alphabet q) || within 48 57 (at alphabet q)) ≡ true
  unfolding is_alphabet
  small-or-digit-at q h =
      let e : q < length alphabet = omega (arith, length-alphabet) in
      at_each _ _ (both_left _ _ (both_right _ _ test)) q e

  -- so it is its own small form
  character-small : (q : ℕ) → q < 32 → small (at alphabet q) ≡ at alphabet q
  character-small q h = small-or-digit (at alphabet q) (small-or-digit-at q h)

  -- and no hyphen; nor is what is past the end
  pub character-no-hyphen : (q : ℕ) → character_of alphabet q ≡ 45 → ⊥
  unfolding character_of
  character-no-hyphen q e =
      by-lt q 32
      (λ h. omega (arith, from-digits (at alphabet q) (small-or-digit-at q h)))
      (λ h. omega (arith, at-past alphabet q (omega (arith, length-alphabet))))
    where
      from-digits : (c : ℕ) → (within 97 122 c || within 48 57 c) ≡ true → 48 ≤ c
      from-digits c t =
          cases (within 97 122 c)
          (λ l. omega (arith, within_low 97 122 c l))
          (λ l. within_low 48 57 c (rw l at t))

  -- the value of the character for q is q
  pub value-character : (q : ℕ) → q < 32 → value_of alphabet (character_of alphabet q) ≡ q
  unfolding is_alphabet is_distinct value_of character_of
  value-character q h =
      let e : q < length alphabet = omega (arith, length-alphabet) in
      rw (character-small q h) (eqb-true _ _ (at_each _ _ (both_right _ _ (both_right _ _ test)) q e))

  pub value-le : (b : ℕ) → value_of alphabet b ≤ 32
  unfolding value_of
  value-le b = let l = first-le (length alphabet) (λ i. eqb (small b) (at alphabet i)) in omega (arith, length-alphabet)

  pub a-character : (byte value : ℕ) → value ≡ value_of alphabet byte → (value ≡ 32 → ⊥) → not (is_character alphabet byte) ≡ false
  unfolding is_character
  a-character byte value e n = rw (lt-ltb (value_of alphabet byte) 32 (below (value-le byte) n e))
    where
      below : {x : ℕ} → x ≤ 32 → (value ≡ 32 → ⊥) → value ≡ x → x < 32
      below h n e = omega arith

  -- the character for the value of a byte is that byte made small
  pub character-value : (b : ℕ) → value_of alphabet b < 32 → character_of alphabet (value_of alphabet b) ≡ small b
  unfolding value_of character_of
  character-value b h =
      sym (eqb-true (small b) _ (first-here (length alphabet) (λ i. eqb (small b) (at alphabet i)) (omega (arith, length-alphabet))))

  -- a byte has a value exactly when it is one of the 32, in either case
  pub has_value : (b : ℕ) → (value_of alphabet b < 32) ↔ ((q : ℕ) × (q < 32) × SameLetter b (character_of alphabet q))
  has_value b = (λ h. (value_of alphabet b, h, found h), λ s. back s.0 s.1 s.2)
    where
      found : value_of alphabet b < 32 → SameLetter b (character_of alphabet (value_of alphabet b))
      found h = letter-same b (character_of alphabet (value_of alphabet b)) (sym (small-small b) ∙ ap small (sym (character-value b h)))

      back : (q : ℕ) → q < 32 → SameLetter b (character_of alphabet q) → value_of alphabet b < 32
      back q h s = rw (value_same alphabet b (character_of alphabet q) (same-letter b (character_of alphabet q) s), value-character q h) h

-- the three alphabets
pub altdude-alphabet : is_alphabet altdude ≡ true
unfolding is_alphabet is_distinct every first_below both within altdude
altdude-alphabet = refl

pub lace-alphabet : is_alphabet lace ≡ true
unfolding is_alphabet is_distinct every first_below both within lace
lace-alphabet = refl

pub brace-alphabet : is_alphabet brace ≡ true
unfolding is_alphabet is_distinct every first_below both within brace
brace-alphabet = refl
