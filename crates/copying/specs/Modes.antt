-- Letters are coded or copied: a single hyphen changes between the two, a pair is a hyphen.
use Rattle.std.specs.Prelude.{ℕ, Bool, true, false, not, List, ◌∷◌, eqb}
use Rattle.basis.specs.Tests.{pick, both}
use Rattle.ascii.specs.Ldh.{is_ldh}
use Rattle.copying.specs.declared.Mode.{Mode}
use Rattle.copying.specs.declared.Mode.TheVariants.{Coded, CodedHyphen, Copied, CopiedHyphen}

-- writing: a single hyphen, which changes between coded and copied, before the rest
unfoldable pub switch_if : Bool → List ℕ → List ℕ
switch_if b rest = pick b (45 ∷ rest) rest

-- whether letters are being copied after an element of a text; a hyphen leaves it as it is
unfoldable pub copying_after : (copying : Bool) (element : ℕ) → Bool
copying_after copying element = pick (eqb element 45) copying (is_ldh element)

-- the mode after a hyphen: the first of two, or the second
unfoldable pub after_hyphen : Mode → Mode
after_hyphen Coded = CodedHyphen
after_hyphen CodedHyphen = Coded
after_hyphen Copied = CopiedHyphen
after_hyphen CopiedHyphen = Copied

-- the mode after any other byte: a single hyphen before it was a change
unfoldable pub after_other : Mode → Mode
after_other Coded = Coded
after_other CodedHyphen = Copied
after_other Copied = Copied
after_other CopiedHyphen = Coded

-- the byte before was a hyphen that is not the second of a pair
unfoldable pub is_second : Mode → Bool
is_second Coded = false
is_second CodedHyphen = true
is_second Copied = false
is_second CopiedHyphen = true

-- a byte other than a hyphen is copied
unfoldable pub is_copied : Mode → Bool
is_copied Coded = false
is_copied CodedHyphen = true
is_copied Copied = true
is_copied CopiedHyphen = false

-- the byte is a quintet's character: no hyphen, and not copied
unfoldable pub is_coded : Mode → ℕ → Bool
is_coded m b = both (not (eqb b 45)) (not (is_copied m))

-- the mode after a byte
unfoldable pub next_mode : Mode → ℕ → Mode
next_mode m b = pick (eqb b 45) (after_hyphen m) (after_other m)
