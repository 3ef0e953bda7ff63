-- Reading what was written and writing what was read, over any alphabet that passes the test.
use Prim.Native.Nat.{ℕ, ◌<◌}
use mathlib.Core.Path.{◌≡◌, ap, ◌∙◌}
use mathlib.Core.Bool.{true}
use mathlib.Core.List.{List, map, map-map, map-id}
use lib.ListN.{length, length-map}
use borrow.Author.Tests.{lt-ltb}
use Rattle.basis.specs.Rows.{at, AllBelow}
use Rattle.basis.proofs.Tests.{first-none}
use Rattle.basis.proofs.Lists.{map_same, at_map}
use Rattle.ascii.specs.Case.{small}
use Rattle.alphabet.specs.Alphabet.{character_of, value_of, is_character, is_alphabet, values_of}
use Rattle.base32.specs.Form.{is_lawful}
use Rattle.base32.specs.Base32.{to_quintets, to_octets, characters_of}
use Rattle.base32.specs.Answer.{first_outside}
use Rattle.alphabet.proofs.Inverse.{value-character, character-value}
use Rattle.base32.proofs.Regroup.{to_quintets-below, octets-back, quintets-lawful, quintets-back}
use Rattle.base32.proofs.Values.{values-below}

module _ (alphabet : List ℕ) (test : is_alphabet alphabet ≡ true) where
  -- the values of the characters of octets are their quintets
  values-characters : (os : List ℕ) → values_of alphabet (characters_of alphabet os) ≡ to_quintets os
  unfolding values_of characters_of
  values-characters os =
      map-map (value_of alphabet) (character_of alphabet) (to_quintets os)
      ∙ map_same (λ q. value_of alphabet (character_of alphabet q)) (λ q. q) (to_quintets os)
      (λ i h. value-character alphabet test (at (to_quintets os) i) (to_quintets-below os i h))
      ∙ map-id (to_quintets os)

  -- what was written has no byte outside the alphabet, is lawful, and reads as the octets
  pub written-inside : (os : List ℕ) → first_outside alphabet (characters_of alphabet os) ≡ length (characters_of alphabet os)
  unfolding first_outside characters_of is_character
  written-inside os =
      first-none (length (map (character_of alphabet) (to_quintets os))) _
      (λ i h.
      let g : i < length (to_quintets os) = rw length-map at h in
      let b = to_quintets-below os i g in
      rw (at_map (character_of alphabet) (to_quintets os) i g, value-character alphabet test (at (to_quintets os) i) b, lt-ltb (at (to_quintets os) i) 32 b))

  pub written-lawful : (os : List ℕ) → AllBelow 256 os → is_lawful (values_of alphabet (characters_of alphabet os)) ≡ true
  written-lawful os h = ap is_lawful (values-characters os) ∙ quintets-lawful os h

  pub written_read : (os : List ℕ) → AllBelow 256 os → to_octets (values_of alphabet (characters_of alphabet os)) ≡ os
  written_read os h = ap to_octets (values-characters os) ∙ octets-back os h

  -- the characters of the values of characters are their small forms
  characters-values : (cs : List ℕ) → AllBelow 32 (values_of alphabet cs) → map (character_of alphabet) (values_of alphabet cs) ≡ map small cs
  unfolding values_of
  characters-values cs below =
      map-map (character_of alphabet) (value_of alphabet) cs
      ∙ map_same (λ b. character_of alphabet (value_of alphabet b)) small cs
      (λ i h. character-value alphabet test (at cs i) (rw (at_map (value_of alphabet) cs i h) at (below i (rw length-map h))))

  -- what was read is written as the same characters, made small
  pub read-written : (cs : List ℕ) → first_outside alphabet cs ≡ length cs → is_lawful (values_of alphabet cs) ≡ true
      → characters_of alphabet (to_octets (values_of alphabet cs)) ≡ map small cs
  unfolding characters_of
  read-written cs inside lawful =
      let below = values-below alphabet cs inside in
      ap (map (character_of alphabet)) (quintets-back (values_of alphabet cs) below lawful) ∙ characters-values cs below
