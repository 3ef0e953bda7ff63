-- Laws on the part of a table that is passed on for an entry.
use Prim.Native.Nat.{ℕ, ◌+◌, ◌-◌, ◌≤◌}
use mathlib.Core.Path.{◌≡◌, ap, ◌∙◌}
use mathlib.Core.List.{List}
use lib.ListN.{length, take, drop, length-drop}
use lib.Seq.{length-take-le}
use native.Mathlib.Omega.{arith}
use Rattle.nametable_format.specs.Format.{entry_length}

-- it is the next 67 bytes, and has as many where the table has them
module _ (t : List ℕ) (start : ℕ) where
  pub entry-part : take (start + entry_length - start) (drop start t) ≡ take entry_length (drop start t)
  entry-part = let n : start + 67 - start ≡ 67 = omega arith in rw n

  pub entry-part-long : start + entry_length ≤ length t → length (take (start + entry_length - start) (drop start t)) ≡ entry_length
  entry-part-long h = ap length entry-part ∙ length-take-le 67 (drop start t) (simp length-drop (omega arith))
