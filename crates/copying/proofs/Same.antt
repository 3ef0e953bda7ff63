-- The test of bytes and the demand's words say the same; the bytes that are written, and their case.
use Prim.Native.Nat.{ℕ, suc, ◌≤◌, ◌<◌}
use mathlib.Core.Path.{◌≡◌, refl, sym, ap, ap₂, ◌∙◌}
use mathlib.Core.Bool.{true}
use mathlib.Core.Logic.{◌↔◌}
use mathlib.Core.List.{List, [], ◌∷◌, map}
use lib.Dec.{eqb}
use lib.ListN.{length}
use borrow.Author.Tests.{eqb-true, eq-eqb, lt-ltb, le-ltb}
use native.Mathlib.Omega.{arith}
use Rattle.basis.specs.Rows.{at}
use Rattle.ascii.specs.Case.{small}
use Rattle.basis.proofs.Tests.{by-lt, at_each, both_left, both_right, both_true, true-not-false, from_first}
use Rattle.ascii.proofs.Case.{small-small, same-letter, letter-same}
use Rattle.alphabet.specs.Alphabet.{character_of, value_of}
use Rattle.alphabet.proofs.Inverse.{value_same, value-character, character-value}
use Rattle.copying.specs.Symbols.{byte_of, bytes_of, is_for, are_for, SameSymbol, SameLabel, Written}
use Rattle.copying.proofs.Bytes.{copied_is, coded-value, spelled-length}

module _ (alphabet : List ℕ) (form : ℕ → ℕ) (w : Written alphabet form) where
  -- the small form of the byte of a quintet is its character
  byte_small : (s : ℕ) → s < 32 → small (byte_of alphabet form s) ≡ character_of alphabet s
  unfolding byte_of
  byte_small s h = rw (lt-ltb s 32 h) (eqb-true _ _ (at_each 32 (λ q. eqb (small (form (character_of alphabet q))) (character_of alphabet q)) w.folds s h))

  byte-value : (s : ℕ) → s < 32 → value_of alphabet (byte_of alphabet form s) ≡ s
  byte-value s h =
      value_same alphabet (byte_of alphabet form s) (character_of alphabet s) (sym (small-small (byte_of alphabet form s)) ∙ ap small (byte_small s h))
      ∙ value-character alphabet w.test s h

  byte-copied : (s : ℕ) → 32 ≤ s → byte_of alphabet form s ≡ s
  unfolding byte_of
  byte-copied s h = rw (le-ltb s 32 h)

  -- a byte that is read as a symbol has the small form of the byte that is written for it
  for-small : (s b : ℕ) → is_for alphabet s b ≡ true → small (byte_of alphabet form s) ≡ small b
  for-small s b e =
      by-lt s 32
      (λ h. let v = coded-value alphabet s b h e in byte_small s h ∙ ap (character_of alphabet) (sym v) ∙ character-value alphabet w.test b (omega arith))
      (λ h. ap small (byte-copied s h ∙ sym (copied_is alphabet s b h e)))

  -- the test of one byte, and the demand's words
  for-iff : (s b : ℕ) → (is_for alphabet s b ≡ true) ↔ SameSymbol alphabet form s b
  unfolding is_for
  for-iff s b =
      by-lt s 32
      (λ h. rw (lt-ltb s 32 h) (
        λ e. letter-same (byte_of alphabet form s) b (for-small s b (rw (lt-ltb s 32 h) e)),
        λ f. eq-eqb (value_of alphabet b) s (sym (value_same alphabet (byte_of alphabet form s) b (same-letter (byte_of alphabet form s) b f)) ∙ byte-value s h),
      ))
      (λ h. rw (le-ltb s 32 h) (λ e. sym (eqb-true b s e), λ f. eq-eqb b s (sym f)))

  -- the test of a row, and the demand's words
  spelled_same : (symbols l : List ℕ) → are_for alphabet symbols l ≡ true → (i : ℕ) → i < length symbols → SameSymbol alphabet form (at symbols i) (at l i)
  unfolding are_for
  spelled_same [] l e i h = absurd (omega arith)
  spelled_same (s ∷ symbols) [] e i h = absurd (true-not-false e refl)
  spelled_same (s ∷ symbols) (b ∷ l) e i h =
      from_first (λ i. SameSymbol alphabet form (at (s ∷ symbols) i) (at (b ∷ l) i)) (length symbols)
      ((for-iff s b).0 (both_left (is_for alphabet s b) _ e))
      (spelled_same symbols l (both_right (is_for alphabet s b) _ e)) i h

  same-spelled : (symbols l : List ℕ) → length symbols ≡ length l → ((i : ℕ) → i < length symbols → SameSymbol alphabet form (at symbols i) (at l i)) → are_for alphabet symbols l ≡ true
  unfolding are_for
  same-spelled [] [] n f = refl
  same-spelled [] (b ∷ l) n f = absurd (omega arith)
  same-spelled (s ∷ symbols) [] n f = absurd (omega arith)
  same-spelled (s ∷ symbols) (b ∷ l) n f = both_true ((for-iff s b).1 (f 0 (omega arith))) (same-spelled symbols l (omega arith) (λ i h. f (suc i) (omega arith)))

  pub same-label : (symbols l : List ℕ) → (are_for alphabet symbols l ≡ true) ↔ SameLabel alphabet form symbols l
  same-label symbols l = (
    λ e. record { equally_long = spelled-length alphabet symbols l e; at_each = spelled_same symbols l e },
    λ f. same-spelled symbols l f.equally_long f.at_each,
  )

  -- the bytes that are written are read as the symbols
  pub bytes-spell : (symbols : List ℕ) → are_for alphabet symbols (bytes_of alphabet form symbols) ≡ true
  unfolding bytes_of are_for is_for
  bytes-spell [] = refl
  bytes-spell (s ∷ symbols) =
      both_true
      (by-lt s 32 (λ h. rw (lt-ltb s 32 h) (eq-eqb _ s (byte-value s h))) (λ h. rw (le-ltb s 32 h, byte-copied s h) (eq-eqb s s refl)))
      (bytes-spell symbols)

  -- bytes that are read as symbols differ from those that are written at most in case
  pub spelled-small : (symbols l : List ℕ) → are_for alphabet symbols l ≡ true → map small (bytes_of alphabet form symbols) ≡ map small l
  unfolding bytes_of are_for
  spelled-small [] [] e = refl
  spelled-small [] (b ∷ l) e = absurd (true-not-false e refl)
  spelled-small (s ∷ symbols) [] e = absurd (true-not-false e refl)
  spelled-small (s ∷ symbols) (b ∷ l) e = ap₂ ◌∷◌ (for-small s b (both_left (is_for alphabet s b) _ e)) (spelled-small symbols l (both_right (is_for alphabet s b) _ e))
