-- What the conversion of a text to units leaves, given the room.
use Prim.Native.Nat.{ℕ, ◌*◌, ◌≤◌}
use mathlib.Core.Path.{◌≡◌, sym, ◌∙◌}
use mathlib.Core.List.{List, ◌++◌}
use lib.ListN.{length, take, drop}
use lib.Seq.{take-length}
use native.Mathlib.Omega.{arith}
use Rattle.basis.specs.Outcome.{Outcome, done, refused, buffer_after}
use Rattle.basis.proofs.Tests.{by-lt}
use Rattle.basis.proofs.Parts.{front-is, front_fits, front_long}
use Rattle.basis.proofs.Outcome.{done-not-refused, done-count}
use Rattle.utf16.specs.Points.{first_not_point}
use Rattle.utf16.specs.Units.{to_units}
use Rattle.utf16.specs.Answer.{to_units_outcome}
use Rattle.utf16.proofs.Refusals.{all_done}
use Rattle.utf16.proofs.RoundTrip.{some-to_units}

-- the converter is done with the text: its units are first in the buffer
pub record Converted (t : List ℕ) (answer : Outcome) (now : List ℕ) : Type 0 where
  pub rest : List ℕ
  pub counts : answer ≡ done (length (to_units t))
  pub leaves : now ≡ to_units t ++ rest

-- so it is with any row of points, given the room
pub converts : (t : List ℕ) → first_not_point t ≡ length t
    → (answer : Outcome) (capacity : ℕ) → answer ≡ to_units_outcome t (length t) capacity → 2 * length t ≤ capacity
    → (now buffer : List ℕ) → now ≡ buffer_after (to_units_outcome t (length t) capacity) (to_units (take (length t) t)) buffer → Converted t answer now
unfolding buffer_after to_units_outcome
converts t points answer capacity is room now buffer left = record {
  rest = drop (length (to_units t)) buffer;
  counts = is ∙ complete;
  leaves = left ∙ rw (complete, take-length);
}
  where
    complete : to_units_outcome t (length t) capacity ≡ done (length (to_units t))
    complete =
        all_done (length t) (length t) (2 * length t) capacity (first_not_point (take (length t) t)) 4 (length (to_units (take (length t) t)))
        (omega arith) (omega arith) (length t) (rw take-length (sym points)) (omega arith) (length (to_units t)) (rw take-length)

module _ {t : List ℕ} {answer : Outcome} {now : List ℕ} (v : Converted t answer now) where
  pub not-refused : {number position : ℕ} → answer ≡ refused number position → ⊥
  not-refused e = done-not-refused v.counts e

  module _ {n : ℕ} (is : answer ≡ done n) where
    pub units-fit : n ≤ length now
    units-fit = front_fits n (to_units t) v.rest now (done-count is v.counts) v.leaves

    pub units-long : n ≡ length (take n now)
    units-long = front_long n (to_units t) v.rest now (done-count is v.counts) v.leaves

    pub units-are : take n now ≡ to_units t
    units-are = front-is n (to_units t) v.rest now (done-count is v.counts) v.leaves

    pub units-some : (length t ≡ 0 → ⊥) → 1 ≤ length (take n now)
    units-some some = let u = some-to_units t in rw units-are (by-lt 0 (length t) (λ h. omega arith) (λ h. absurd (some (omega arith))))
