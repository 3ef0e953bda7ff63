-- What the conversions answer, test by test; and that their causes settle it: they refuse exactly
-- what they must, at the first place.
use Prim.Native.Nat.{ℕ, ◌*◌, ◌/◌, ◌%◌, ◌≤◌, ◌<◌}
use mathlib.Core.Path.{◌≡◌, refl, sym, ap, ◌∙◌, subst}
use mathlib.Core.Bool.{Bool, true, not}
use mathlib.Core.Logic.{◌↔◌}
use mathlib.Core.List.{List, [], ◌∷◌, ◌++◌}
use lib.Dec.{ltb}
use lib.ListN.{length, get_or, take, drop}
use lib.Seq.{length-take-le}
use borrow.Author.Tests.{ltb-false}
use native.Mathlib.Omega.{arith}
use Rattle.basis.specs.Tests.{first_below, IsFirst}
use Rattle.basis.specs.Outcome.{Outcome, done, refused, refused_if, and_then, buffer_after}
use Rattle.basis.specs.Causes.{Cause, whole, placed, Absent, Settles}
use Rattle.basis.proofs.Tests.{cases, ltb_iff, eqb-iff, none-iff, first-le}
use Rattle.basis.proofs.Outcome.{stop-below, pass_below, pass-equal, stop-found, pass-found, refused-leaves, done-leaves, values-fit, values-long, values-are, passed, done-count}
use Rattle.basis.proofs.Causes.{settle-whole, settle-first, settle-done, absent-first}
use Rattle.utf16.specs.Points.{is_point, is_text, first_not_point}
use Rattle.utf16.specs.Units.{to_units, to_points, unpaired_at, first_unpaired}
use Rattle.utf16.specs.Bytes.{units_of_bytes, bytes_of_units, points_of, bytes_of}
use Rattle.utf16.specs.Answer.{converted, to_units_outcome, to_points_outcome, points_to_bytes_outcome, units_to_bytes_outcome, is_odd, bytes_to_units_outcome, refused_unpaired, bytes_to_points_outcome}
use Rattle.utf16.proofs.RoundTrip.{length-to_units, length-bytes_of-units, paired-bytes_of}
use Rattle.utf16.specs.Causes.{NotAPointAt, UnpairedAt, to_units_causes, to_points_causes, points_to_bytes_causes, units_to_bytes_causes, bytes_to_units_causes, bytes_to_points_causes}

-- a counted row: what is answered test by test, and that the buffer holds what it held, or the
-- values in front
module _ (given count needed capacity first number result : ℕ) where
  abbrev answer : Outcome
  answer = converted given count needed capacity first number result

  abbrev Leaves : List ℕ → List ℕ → Outcome → List ℕ → Type 0
  Leaves values old outcome now = (outcome ≡ answer) × (now ≡ buffer_after answer values old)

  pub count-leaves : (values old : List ℕ) → given < count → Leaves values old (refused 1 0) old
  unfolding converted
  count-leaves values old h = refused-leaves _ values old 1 0 (stop-below 1 0 _ given count h)

  module _ (inside : count ≤ given) where
    pub room-leaves : (values old : List ℕ) → capacity < needed → Leaves values old (refused 1 0) old
    unfolding converted
    room-leaves values old h = refused-leaves _ values old 1 0 (pass_below 1 0 _ given count inside ∙ stop-below 1 0 _ capacity needed h)

    module _ (fits : needed ≤ capacity) (found : ℕ) (is : found ≡ first) where
      passes : answer ≡ refused_if (ltb first count) number first (done result)
      unfolding converted
      passes = pass_below 1 0 _ given count inside ∙ pass_below 1 0 _ capacity needed fits

      pub element-leaves : (values old : List ℕ) → found < count → Leaves values old (refused number found) old
      element-leaves values old h = refused-leaves _ values old number found (passes ∙ stop-found number count _ found first is h)

      pub all_done : count ≤ found → (put : ℕ) → put ≡ result → answer ≡ done put
      all_done h put e = passes ∙ pass-found number count _ found first is h ∙ ap done (sym e)

      pub all-leaves : (values old : List ℕ) → count ≤ found → (put : ℕ) (now : List ℕ) → (put ≡ result) × (now ≡ values ++ drop result old) → Leaves values old (done put) now
      all-leaves values old h put now stored = done-leaves _ values old now put (all_done h put stored.0) (rw (← stored.0) at stored.1)

-- units to bytes, and bytes to units, with room
pub bytes-done : (us : List ℕ) (count capacity : ℕ) → count ≤ length us → 2 * count ≤ capacity → (put : ℕ) → put ≡ length (bytes_of_units (take count us))
    → units_to_bytes_outcome us count capacity ≡ done put
unfolding units_to_bytes_outcome
bytes-done us count capacity inside room put e = pass_below 1 0 _ (length us) count inside ∙ pass_below 1 0 _ capacity (2 * count) room ∙ ap done (sym e)

pub units-done : (bytes : List ℕ) (capacity : ℕ) → length bytes / 2 ≤ capacity → (length bytes % 2 ≡ 1 → ⊥) → (put : ℕ) → put ≡ length (units_of_bytes bytes)
    → bytes_to_units_outcome bytes capacity ≡ done put
unfolding bytes_to_units_outcome is_odd
units-done bytes capacity room even put e = pass_below 1 0 _ capacity (length bytes / 2) room ∙ pass-equal 12 0 _ (length bytes % 2) 1 even ∙ ap done (sym e)

-- bytes to points: an even number of bytes with room is judged by its units
module _ (bytes : List ℕ) (capacity : ℕ) (even : length bytes % 2 ≡ 1 → ⊥) (room : length bytes / 2 ≤ capacity) where
  pub points-judged : bytes_to_points_outcome bytes capacity ≡ refused_unpaired (units_of_bytes bytes) (done (length (points_of bytes)))
  unfolding bytes_to_points_outcome is_odd
  points-judged = pass-equal 12 0 _ (length bytes % 2) 1 even ∙ pass_below 1 0 _ capacity (length bytes / 2) room

-- the bytes of a text become points again
pub text-bytes-done : (ps : List ℕ) (capacity : ℕ) → is_text ps ≡ true → 2 * length ps ≤ capacity → bytes_to_points_outcome (bytes_of ps) capacity ≡ done (length (points_of (bytes_of ps)))
unfolding refused_unpaired
text-bytes-done ps capacity text room =
    let long = length-bytes_of-units ps in
    let us = units_of_bytes (bytes_of ps) in
    points-judged (bytes_of ps) capacity (λ e. omega arith) (omega (arith, length-to_units ps)) ∙ pass-found 10 (length us) _ (first_unpaired us) _ refl (omega (arith, paired-bytes_of ps text))

-- what follows a search for an unpaired surrogate follows a count after it
pub then-unpaired : (us : List ℕ) (count : ℕ) (next : Outcome) → and_then (λ p. p) (refused_unpaired us (done count)) next ≡ refused_unpaired us next
unfolding refused_unpaired refused_if and_then
then-unpaired us count next = cases (ltb (first_unpaired us) (length us)) (λ e. rw e) (λ e. rw e)

-- bytes that were converted: their points are in front of the buffer, which was old
module _ (bytes : List ℕ) (capacity n : ℕ) (is : bytes_to_points_outcome bytes capacity ≡ done n) (old now : List ℕ) (left : now ≡ buffer_after (bytes_to_points_outcome bytes capacity) (points_of bytes) old) where
  count : n ≡ length (points_of bytes)
  unfolding bytes_to_points_outcome refused_unpaired
  count = done-count (passed _ _ _ _ n (passed _ _ _ _ n (passed _ _ _ _ n is).1).1).1 refl

  pub points-fit : n ≤ length now
  points-fit = values-fit _ _ old now n is count left

  pub points-long : n ≡ length (take n now)
  points-long = values-long _ _ old now n is count left

  pub points-are : take n now ≡ points_of bytes
  points-are = values-are _ _ old now n is count left

-- the causes settle it, where the first element out of place is the first at which a test holds
converted-settled : (xs : List ℕ) (n needed capacity number result : ℕ) (test : ℕ → Bool)
    → Settles (whole 1 (length xs < n) ∷ whole 1 (capacity < needed) ∷ placed number (IsFirst (length (take n xs)) test) ∷ []) result
    (converted (length xs) n needed capacity (first_below (length (take n xs)) test) number result)
unfolding converted
converted-settled xs n needed capacity number result test =
    settle-whole (ltb (length xs) n) 1 (ltb_iff (length xs) n)
    (λ few. settle-whole (ltb capacity needed) 1 (ltb_iff capacity needed)
    (λ _. subst (λ (m : ℕ). Settles (placed number (IsFirst (length (take n xs)) test) ∷ []) result (refused_if (ltb (first_below (length (take n xs)) test) m) number (first_below (length (take n xs)) test) (done result)))
    (length-take-le n xs (ltb-false (length xs) n few))
    (settle-first (length (take n xs)) test number (λ _. settle-done result))))

pub to-units-settled : (ps : List ℕ) (n c : ℕ) → Settles (to_units_causes ps n c) (length (to_units (take n ps))) (to_units_outcome ps n c)
unfolding to_units_outcome first_not_point
to-units-settled ps n c = converted-settled ps n (2 * n) c 4 _ _

pub to-points-settled : (us : List ℕ) (n c : ℕ) → Settles (to_points_causes us n c) (length (to_points (take n us))) (to_points_outcome us n c)
unfolding to_points_outcome first_unpaired
to-points-settled us n c = converted-settled us n n c 10 _ _

pub points-to-bytes-settled : (ps : List ℕ) (n c : ℕ) → Settles (points_to_bytes_causes ps n c) (length (bytes_of (take n ps))) (points_to_bytes_outcome ps n c)
unfolding points_to_bytes_outcome first_not_point
points-to-bytes-settled ps n c = converted-settled ps n (4 * n) c 4 _ _

pub units-to-bytes-settled : (us : List ℕ) (n c : ℕ) → Settles (units_to_bytes_causes us n c) (length (bytes_of_units (take n us))) (units_to_bytes_outcome us n c)
unfolding units_to_bytes_outcome
units-to-bytes-settled us n c =
    settle-whole (ltb (length us) n) 1 (ltb_iff (length us) n) (λ _. settle-whole (ltb c (2 * n)) 1 (ltb_iff c (2 * n)) (λ _. settle-done _))

pub bytes-to-units-settled : (bytes : List ℕ) (c : ℕ) → Settles (bytes_to_units_causes bytes c) (length (units_of_bytes bytes)) (bytes_to_units_outcome bytes c)
unfolding bytes_to_units_outcome is_odd
bytes-to-units-settled bytes c =
    settle-whole (ltb c (length bytes / 2)) 1 (ltb_iff c (length bytes / 2)) (λ _. settle-whole (is_odd (length bytes)) 12 (eqb-iff _ 1) (λ _. settle-done _))

-- an unpaired surrogate, and then what is settled where there is none
pub unpaired-settled : (us : List ℕ) {causes : List Cause} {count : ℕ} {next : Outcome}
    → (first_unpaired us ≡ length us → Settles causes count next) → Settles (placed 10 (UnpairedAt us) ∷ causes) count (refused_unpaired us next)
unfolding refused_unpaired first_unpaired
unpaired-settled us rest = settle-first (length us) (unpaired_at 0 us) 10 rest

pub bytes-to-points-settled : (bytes : List ℕ) (c : ℕ) → Settles (bytes_to_points_causes bytes c) (length (points_of bytes)) (bytes_to_points_outcome bytes c)
unfolding bytes_to_points_outcome is_odd
bytes-to-points-settled bytes c =
    settle-whole (is_odd (length bytes)) 12 (eqb-iff _ 1)
    (λ _. settle-whole (ltb c (length bytes / 2)) 1 (ltb_iff c (length bytes / 2))
    (λ _. unpaired-settled (units_of_bytes bytes) (λ _. settle-done _)))

-- a row is a text exactly when the search for a number that is no point goes to its end
pub text-iff : (ps : List ℕ) → (first_not_point ps ≡ length ps) ↔ (is_text ps ≡ true)
unfolding first_not_point is_text
text-iff ps = none-iff (length ps) (λ i. is_point (get_or ps i 0))

-- a row in which no number is no point is a text
pub points-text : (ps : List ℕ) → Absent (placed 4 (NotAPointAt ps)) → is_text ps ≡ true
unfolding first_not_point
points-text ps absent = (text-iff ps).0 (absent-first (length ps) (λ i. not (is_point (get_or ps i 0))) absent)

-- a text with room becomes bytes
text-done : (ps : List ℕ) (n capacity : ℕ) → n ≤ length ps → 4 * n ≤ capacity → is_text (take n ps) ≡ true → points_to_bytes_outcome ps n capacity ≡ done (length (bytes_of (take n ps)))
unfolding points_to_bytes_outcome
text-done ps n capacity inside room text =
    all_done _ _ _ _ _ _ _ inside room _ refl (omega (arith, (text-iff (take n ps)).1 text, length-take-le n ps inside)) _ refl

pub text-leaves : (ps : List ℕ) (n capacity : ℕ) (t old now : List ℕ) (outcome : Outcome) → n ≤ length ps → 4 * n ≤ capacity → take n ps ≡ t → is_text t ≡ true
    → (outcome ≡ points_to_bytes_outcome ps n capacity) × (now ≡ buffer_after (points_to_bytes_outcome ps n capacity) (bytes_of (take n ps)) old)
    → (outcome ≡ done (length (bytes_of t))) × (now ≡ buffer_after (done (length (bytes_of t))) (bytes_of t) old)
text-leaves ps n capacity t old now outcome inside room is text left =
    rw is at (rw (text-done ps n capacity inside room (ap is_text is ∙ text)) at left)

pub text-judged : (ps : List ℕ) (n found : ℕ) → n ≤ length ps → found ≡ first_not_point (take n ps) → n ≤ found → is_text (take n ps) ≡ true
unfolding first_not_point
text-judged ps n found h e g = (text-iff (take n ps)).0 (omega (arith, first-le (length (take n ps)) (λ i. not (is_point (get_or (take n ps) i 0))), length-take-le n ps h))
