-- The labels of parts: none holds a dot.
use Prim.Native.Nat.{ℕ}
use mathlib.Core.Path.{◌≡◌, refl, sym, ap, ◌∙◌}
use mathlib.Core.Bool.{true, false}
use mathlib.Core.List.{List, ◌∷◌, map}
use lib.Dec.{eqb}
use lib.ListN.{length}
use borrow.Author.Tests.{eqb-true}
use native.Mathlib.Omega.{arith}
use Rattle.basis.specs.Tests.{both, within, first_below}
use Rattle.basis.specs.Rows.{at}
use Rattle.basis.proofs.Tests.{cases, true-not-false, at_each, none-iff}
use Rattle.ascii.specs.Case.{is_capital, small}
use Rattle.ascii.specs.Ldh.{is_ldh, is_all_ldh, is_host_label}
use Rattle.ascii.proofs.Ldh.{ldh-under}
use Rattle.ascii.proofs.HostLabel.{is-host}
use Rattle.utf16.specs.Units.{to_units}
use Rattle.alphabet.specs.Alphabet.{lace, value_of, is_character}
use Rattle.alphabet.proofs.Inverse.{lace-alphabet}
use Rattle.base32.specs.Base32.{characters_of}
use Rattle.base32.specs.Answer.{first_outside}
use Rattle.base32.proofs.RoundTrip.{written-inside}
use Rattle.lace_encoding.specs.Encoding.{octets_of, label_of}
use Rattle.host_name.specs.Parts.{dot, has_dot, parts_of}
use Rattle.host_name.specs.Answer.{part_label, name_of}
use Rattle.host_name.proofs.Parts.{dot-later}
use Rattle.host_name_facts.proofs.Dots.{at-no-dot}
use Rattle.host_name_facts.proofs.Parts.{parts-dotless, parts-mapped, dotless-mapped}

-- the dot is no LDH and no character of LACE
dot-not-ldh : is_ldh dot ≡ false
dot-not-ldh = sym (ldh-under dot (omega arith))

dot-no-character : is_character lace dot ≡ false
unfolding is_character value_of first_below small is_capital within both lace
dot-no-character = refl

-- so a host label holds none
pub host-dotless : (part : List ℕ) → is_host_label part ≡ true → has_dot part ≡ false
unfolding is_all_ldh
host-dotless part host = at-no-dot part (λ i h. other (at part i) (at_each _ _ (is-host part host).ldh i h))
  where
    other : (x : ℕ) → is_ldh x ≡ true → eqb x dot ≡ false
    other x l = cases (eqb x dot) (λ e. absurd (true-not-false l (ap is_ldh (eqb-true x dot e) ∙ dot-not-ldh))) (λ e. e)

-- nor does a LACE label
characters-dotless : (octets : List ℕ) → has_dot (characters_of lace octets) ≡ false
unfolding first_outside
characters-dotless octets =
    let cs = characters_of lace octets in
    let inside = (none-iff (length cs) (λ i. is_character lace (at cs i))).0 (written-inside lace lace-alphabet octets) in
    at-no-dot cs (λ i h. other (at cs i) (at_each (length cs) (λ i. is_character lace (at cs i)) inside i h))
  where
    other : (x : ℕ) → is_character lace x ≡ true → eqb x dot ≡ false
    other x l = cases (eqb x dot) (λ e. absurd (true-not-false l (ap (is_character lace) (eqb-true x dot e) ∙ dot-no-character))) (λ e. e)

lace-dotless : (text : List ℕ) → has_dot (label_of text) ≡ false
unfolding label_of
lace-dotless text =
    let cs = characters_of lace (octets_of (to_units text)) in
    dot-later 108 (113 ∷ 45 ∷ 45 ∷ cs) refl ∙ dot-later 113 (45 ∷ 45 ∷ cs) refl ∙ dot-later 45 (45 ∷ cs) refl ∙ dot-later 45 cs refl ∙ characters-dotless _

-- the label of a part, by its kind
module _ (part : List ℕ) where
  pub label-host : is_host_label part ≡ true → part_label part ≡ part
  unfolding part_label
  label-host e = rw e

  pub label-lace : is_host_label part ≡ false → part_label part ≡ label_of part
  unfolding part_label
  label-lace e = rw e

  label-dotless : has_dot (part_label part) ≡ false
  label-dotless =
      cases (is_host_label part)
      (λ e. ap has_dot (label-host e) ∙ host-dotless part e)
      (λ e. ap has_dot (label-lace e) ∙ lace-dotless part)

-- the parts of the name of a text are the labels of its parts
pub name-parts : (text : List ℕ) → parts_of (name_of text) ≡ map part_label (parts_of text)
unfolding name_of
name-parts text = parts-mapped part_label text (dotless-mapped part_label (λ part _. label-dotless part) (parts_of text) (parts-dotless text))
