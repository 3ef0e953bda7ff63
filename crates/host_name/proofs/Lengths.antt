-- How long parts are when joined, and that the text of a name is no longer than the name.
use Prim.Native.Nat.{ℕ, ◌-◌, ◌≤◌}
use mathlib.Core.Path.{◌≡◌, refl, ap}
use mathlib.Core.List.{List, [], ◌∷◌, map}
use lib.ListN.{length, length-append}
use native.Mathlib.Omega.{arith}
use Rattle.basis.proofs.Tests.{cases}
use Rattle.ascii.specs.Prefix.{has_prefix}
use Rattle.lace_format.specs.Prefix.{prefix}
use Rattle.lace_decoding.proofs.Lengths.{text-fits}
use Rattle.host_name.specs.Parts.{parts_of, after_dots, joined}
use Rattle.host_name.specs.Answer.{part_text, text_of_name}
use Rattle.host_name.proofs.Parts.{parts_join}

-- parts joined are one shorter than each after a dot
joined_length : (parts : List (List ℕ)) → length (joined parts) ≡ length (after_dots parts) - 1
unfolding joined after_dots
joined_length [] = refl
joined_length (part ∷ parts) = omega arith

-- parts that become no longer, one by one, are no longer when joined
module _ (f : List ℕ → List ℕ) (fits : (part : List ℕ) → length (f part) ≤ length part) where
  after-dots-fit : (parts : List (List ℕ)) → length (after_dots (map f parts)) ≤ length (after_dots parts)
  unfolding after_dots
  after-dots-fit [] = omega arith
  after-dots-fit (part ∷ parts) =
      omega (arith, fits part, after-dots-fit parts, length-append part (after_dots parts), length-append (f part) (after_dots (map f parts)))

  joined-fits : (row : List ℕ) → length (joined (map f (parts_of row))) ≤ length row
  joined-fits row = omega (arith, joined_length (map f (parts_of row)), joined_length (parts_of row), after-dots-fit (parts_of row), ap length (parts_join row))

-- the text of a label is no longer than the label, and that of a name no longer than the name
part-text-fits : (part : List ℕ) → length (part_text part) ≤ length part
unfolding part_text
part-text-fits part = cases (has_prefix prefix part) (λ e. rw e (text-fits part)) (λ e. rw e (omega arith))

pub name-text-fits : (name : List ℕ) → length (text_of_name name) ≤ length name
unfolding text_of_name
name-text-fits name = joined-fits part_text part-text-fits name
