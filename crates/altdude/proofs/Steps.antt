-- What each kind of symbol does: the last of a group, a leading one, a hyphen, and the end.
use mathlib.Core.Path.{◌≡◌, refl}
use mathlib.Core.Bool.{true, not}
use mathlib.Core.List.{List, [], ◌∷◌}
use Prim.Native.Nat.{ℕ, ◌+◌, ◌-◌, ◌*◌, ◌<◌, ◌≤◌}
use lib.Bits.{bit_xor}
use lib.Dec.{eqb, ltb}
use borrow.Author.Tests.{lt-ltb, le-ltb, ne_eqb}
use Rattle.basis.specs.Tests.{both}
use Rattle.utf16.specs.Points.{is_point}
use Rattle.altdude.specs.Decoding.{follows, next_remembered, next_pending, adds, is_readable, text_from}

-- the last symbol of a group
module _ (m v s : ℕ) (low : s < 16) where
  pub follows-low : follows m v s ≡ both (is_point (bit_xor m (v * 16 + s))) (not (eqb (bit_xor m (v * 16 + s)) 45))
  unfolding follows
  follows-low = simp (lt-ltb _ _ low)

  pub remembered-low : next_remembered m v s ≡ bit_xor m (v * 16 + s)
  unfolding next_remembered
  remembered-low = simp (lt-ltb _ _ low)

  pub pending-low : next_pending v s ≡ 0
  unfolding next_pending
  pending-low = simp (lt-ltb _ _ low)

  pub adds-low : (rest : List ℕ) → adds m v s rest ≡ bit_xor m (v * 16 + s) ∷ rest
  unfolding adds
  adds-low rest = simp (lt-ltb _ _ low)

module _ (m v s : ℕ) (high : 16 ≤ s) (no : s ≡ 45 → ⊥) where
  pub follows-high : follows m v s ≡ both (ltb s 32) (not (eqb (v * 16 + (s - 16)) 0))
  unfolding follows
  follows-high = simp (le-ltb _ _ high, ne_eqb _ _ no)

  pub remembered-high : next_remembered m v s ≡ m
  unfolding next_remembered
  remembered-high = simp (le-ltb _ _ high)

  pub pending-high : next_pending v s ≡ v * 16 + (s - 16)
  unfolding next_pending
  pending-high = simp (le-ltb _ _ high, ne_eqb _ _ no)

  pub adds-high : (rest : List ℕ) → adds m v s rest ≡ rest
  unfolding adds
  adds-high rest = simp (le-ltb _ _ high, ne_eqb _ _ no)

module _ (m v s : ℕ) (l : List ℕ) (low : s < 16) where
  pub readable-low : is_readable m v (s ∷ l) ≡ both (both (is_point (bit_xor m (v * 16 + s))) (not (eqb (bit_xor m (v * 16 + s)) 45))) (is_readable (bit_xor m (v * 16 + s)) 0 l)
  unfolding is_readable
  readable-low = rw (follows-low m v s low, remembered-low m v s low, pending-low m v s low)

  pub text-low : text_from m v (s ∷ l) ≡ bit_xor m (v * 16 + s) ∷ text_from (bit_xor m (v * 16 + s)) 0 l
  unfolding text_from
  text-low = rw (adds-low m v s low, remembered-low m v s low, pending-low m v s low)

module _ (m v s : ℕ) (l : List ℕ) (high : 16 ≤ s) (no : s ≡ 45 → ⊥) where
  pub readable-high : is_readable m v (s ∷ l) ≡ both (both (ltb s 32) (not (eqb (v * 16 + (s - 16)) 0))) (is_readable m (v * 16 + (s - 16)) l)
  unfolding is_readable
  readable-high = rw (follows-high m v s high no, remembered-high m v s high no, pending-high m v s high no)

  pub text-high : text_from m v (s ∷ l) ≡ text_from m (v * 16 + (s - 16)) l
  unfolding text_from
  text-high = rw (adds-high m v s high no, remembered-high m v s high no, pending-high m v s high no)

pub readable-nil : (m : ℕ) → is_readable m 0 [] ≡ true
unfolding is_readable
readable-nil m = refl

pub text-nil : (m v : ℕ) → text_from m v [] ≡ []
unfolding text_from
text-nil m v = refl

pub readable-hyphen : (m v : ℕ) (l : List ℕ) → is_readable m v (45 ∷ l) ≡ both (eqb v 0) (is_readable m 0 l)
unfolding is_readable follows next_remembered next_pending
readable-hyphen m v l = refl

pub text-hyphen : (m v : ℕ) (l : List ℕ) → text_from m v (45 ∷ l) ≡ 45 ∷ text_from m 0 l
unfolding text_from adds next_remembered next_pending
text-hyphen m v l = refl
