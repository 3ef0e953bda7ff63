-- A row that is copied to the front of a buffer, one by one.
use Prim.Native.Nat.{ℕ, ◌+◌, ◌≤◌, ◌<◌}
use mathlib.Core.Path.{◌≡◌}
use mathlib.Core.List.{List, ◌++◌}
use lib.ListN.{length, drop, set, get_or, drop_of_length-le}
use lib.Seq.{drop-cons}
use native.Mathlib.Numerals.{add-one}
use Rattle.basis.proofs.Stores.{Storing, storing-piece, storing-none, stored_one}

module _ (row old now : List ℕ) (i : ℕ) (s : Storing old row now i (drop i row)) where
  pub row-turn : i < length row → Storing old row (set now i (get_or row i 0)) (i + 1) (drop (i + 1) row)
  row-turn h = storing-piece s (rw add-one (drop-cons row i 0 h)) (stored_one now i (get_or row i 0))

  pub row-filled : length row ≤ i → length row ≤ length old → now ≡ row ++ drop (length row) old
  row-filled h g = (storing-none old row now i (drop i row) s (drop_of_length-le row h) g).1
