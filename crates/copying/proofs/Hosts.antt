-- Bytes that are read as quintets and LDH are all LDH.
use Prim.Native.Nat.{ℕ, zero, suc, ◌<◌}
use mathlib.Core.Path.{◌≡◌, refl, sym, ap, ◌∙◌}
use mathlib.Core.Bool.{Bool, true, false}
use mathlib.Core.Logic.{◌⊎◌, inl, inr}
use mathlib.Core.List.{List, [], ◌∷◌}
use native.Mathlib.Omega.{arith}
use Rattle.basis.specs.Tests.{every, every_in}
use Rattle.basis.proofs.Tests.{both_left, both_right, both_true, true-not-false, at_each}
use Rattle.ascii.specs.Ldh.{is_ldh}
use Rattle.alphabet.specs.Alphabet.{character_of, is_alphabet}
use Rattle.alphabet.proofs.Inverse.{character-value}
use Rattle.copying.specs.Symbols.{is_for, are_for, quintets}
use Rattle.copying.specs.Modes.{switch_if}
use Rattle.copying.proofs.Bytes.{copied_is, coded-value, hyphen-ldh, ldh-from}
use Rattle.copying.proofs.Case.{ldh-same}
use Rattle.copying.proofs.Elements.{AllOf}

-- a quintet, or an LDH byte
abbrev pub IsSymbol : ℕ → Type 0
IsSymbol s = (s < 32) ⊎ (is_ldh s ≡ true)

pub quintets-symbols : (n x : ℕ) (rest : List ℕ) → AllOf IsSymbol rest → AllOf IsSymbol (quintets n x rest)
unfolding quintets AllOf
quintets-symbols zero x rest a = a
quintets-symbols (suc n) x rest a = (inl (omega arith), quintets-symbols n x rest a)

pub switch-symbols : (b : Bool) (rest : List ℕ) → AllOf IsSymbol rest → AllOf IsSymbol (switch_if b rest)
unfolding switch_if AllOf
switch-symbols true rest a = (inr hyphen-ldh, a)
switch-symbols false rest a = a

-- the same of a row of LDH
pub ldh-symbols : (t : List ℕ) → every_in is_ldh t ≡ true → AllOf IsSymbol t
unfolding every AllOf
ldh-symbols [] e = tt
ldh-symbols (u ∷ t) e = (inr (both_left (is_ldh u) _ e), ldh-symbols t (both_right (is_ldh u) _ e))

-- over an alphabet of LDH
module _ (alphabet : List ℕ) (test : is_alphabet alphabet ≡ true) (ldh : every 32 (λ q. is_ldh (character_of alphabet q)) ≡ true) where
  -- a byte that is read as a symbol is LDH
  for-ldh : (s b : ℕ) → IsSymbol s → is_for alphabet s b ≡ true → is_ldh b ≡ true
  for-ldh s b (inl h) e =
      let v = coded-value alphabet s b h e in
      sym (ldh-same b) ∙ ap is_ldh (sym (ap (character_of alphabet) (sym v) ∙ character-value alphabet test b (omega arith))) ∙ at_each 32 (λ q. is_ldh (character_of alphabet q)) ldh s h
  for-ldh s b (inr l) e = rw (copied_is alphabet s b (omega (arith, ldh-from s l)) e) l

  pub spelled-ldh : (symbols l : List ℕ) → AllOf IsSymbol symbols → are_for alphabet symbols l ≡ true → every_in is_ldh l ≡ true
  unfolding are_for every AllOf
  spelled-ldh [] [] a e = refl
  spelled-ldh [] (b ∷ l) a e = absurd (true-not-false e refl)
  spelled-ldh (s ∷ symbols) [] a e = absurd (true-not-false e refl)
  spelled-ldh (s ∷ symbols) (b ∷ l) a e =
      both_true (for-ldh s b a.0 (both_left (is_for alphabet s b) _ e)) (spelled-ldh symbols l a.1 (both_right (is_for alphabet s b) _ e))
