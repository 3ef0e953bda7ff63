-- A byte that was looked up in LACE's alphabet, and whether it is a character; and what the search for one that is none needs.
use Prim.Native.Nat.{ℕ}
use mathlib.Core.Path.{◌≡◌}
use mathlib.Core.Bool.{true, false, not}
use Rattle.basis.proofs.Scan.{passed_none, passed-more, found_first, found_none}
use Rattle.alphabet.specs.Alphabet.{lace, is_character, look_up}
use Rattle.alphabet.specs.declared.Character.{Character}
use Rattle.alphabet.proofs.Inverse.{no-character, a-character, lace-alphabet}
use Rattle.alphabet.proofs.LookUp.{value_found}

module _ (byte : ℕ) (found : Character) (e : found ≡ look_up lace byte) where
  pub found-none : found.value ≡ 32 → not (is_character lace byte) ≡ true
  found-none n = no-character lace byte _ (value_found lace byte e) n

  pub found-some : (found.value ≡ 32 → ⊥) → not (is_character lace byte) ≡ false
  found-some n = a-character lace lace-alphabet byte _ (value_found lace byte e) n

pub ruleset outside_rules = (passed_none, passed-more, found_first, found_none, found-none, found-some)
