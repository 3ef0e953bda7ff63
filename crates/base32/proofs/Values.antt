-- Laws on rows of characters: their values, when all are quintets, and what the code writes one by one.
use Prim.Native.Nat.{ℕ, ◌≤◌, ◌<◌}
use mathlib.Core.Path.{◌≡◌, ap, ◌∙◌}
use mathlib.Core.Bool.{not}
use mathlib.Core.List.{List, ◌++◌, append-nil}
use lib.ListN.{length, drop, drop_of_length-le, length-map}
use borrow.Author.Tests.{ltb-true, not-false}
use native.Mathlib.Omega.{arith}
use Rattle.basis.specs.Rows.{at, tabulate, AllBelow}
use Rattle.basis.proofs.Tests.{first-le, first-before}
use Rattle.basis.proofs.Lists.{at_map, map-tabulate, fill_done}
use Rattle.alphabet.specs.Alphabet.{character_of, value_of, is_character, values_of}
use Rattle.base32.specs.Bits.{regroup}
use Rattle.base32.specs.Form.{octet_count}
use Rattle.base32.specs.Base32.{quintet_count, to_quintets, to_octets, characters_of}
use Rattle.base32.specs.Answer.{first_outside}
use Rattle.base32.proofs.Regroup.{length-to_quintets}

module _ (alphabet bytes : List ℕ) where
  pub length-values : length (values_of alphabet bytes) ≡ length bytes
  unfolding values_of
  length-values = length-map bytes (value_of alphabet)

  pub at-values : (i : ℕ) → i < length bytes → at (values_of alphabet bytes) i ≡ value_of alphabet (at bytes i)
  unfolding values_of
  at-values = at_map (value_of alphabet) bytes

  pub none-outside : (bad : ℕ) → bad ≡ first_outside alphabet bytes → length bytes ≤ bad → first_outside alphabet bytes ≡ length bytes
  unfolding first_outside
  none-outside bad e h = omega (arith, first-le (length bytes) (λ j. not (is_character alphabet (at bytes j))))

  -- a row with no byte outside the alphabet has quintets for values
  pub values-below : first_outside alphabet bytes ≡ length bytes → AllBelow 32 (values_of alphabet bytes)
  unfolding first_outside is_character
  values-below e i h =
      let g : i < length bytes = omega (arith, length-values) in
      rw (at-values i g)
      (ltb-true _ 32 (not-false _ (first-before (length bytes) (λ j. not (is_character alphabet (at bytes j))) i (rw (← e) at g))))

  -- their octets one by one
  pub octets-tabulate : (n : ℕ) → n ≡ octet_count (length bytes) → to_octets (values_of alphabet bytes) ≡ tabulate n (regroup 5 8 (at (values_of alphabet bytes)))
  unfolding to_octets
  octets-tabulate n e = rw (e, length-values)

-- the characters of octets one by one
pub characters-tabulate : (alphabet os : List ℕ) (n : ℕ) → n ≡ quintet_count (length os) → characters_of alphabet os ≡ tabulate n (λ i. character_of alphabet (regroup 8 5 (at os) i))
unfolding characters_of to_quintets
characters-tabulate alphabet os n e = rw (e, map-tabulate)

pub length-characters_of : (alphabet os : List ℕ) → length (characters_of alphabet os) ≡ quintet_count (length os)
unfolding characters_of
length-characters_of alphabet os = length-map (to_quintets os) (character_of alphabet) ∙ length-to_quintets os

-- a part of a buffer that was filled one by one to its end
pub fill-part : (now part whole : List ℕ) (f : ℕ → ℕ) (i n : ℕ) → length part ≡ n → i ≡ n → whole ≡ tabulate n f → now ≡ tabulate i f ++ drop i part → now ≡ whole
fill-part now part whole f i n long e w q =
    fill_done now part whole f i n e w q ∙ ap (λ (l : List ℕ). whole ++ l) (drop_of_length-le part {i = n} (omega arith)) ∙ append-nil whole
