-- What encoding from points and decoding to points need of the answers for units.
use Prim.Native.Nat.{ℕ, ◌≤◌, ◌<◌}
use mathlib.Core.Path.{◌≡◌, refl, ◌∙◌}
use mathlib.Core.Bool.{true, false, not}
use mathlib.Core.List.{List}
use lib.Dec.{ltb}
use lib.ListN.{length, take, get_or}
use borrow.Author.Tests.{ltb-false, lt-ltb, le-ltb, not-false}
use native.Mathlib.Omega.{arith}
use Rattle.basis.specs.Outcome.{Outcome, done, refused, buffer_after}
use Rattle.basis.proofs.Tests.{true-not-false, first-le, both_left}
use Rattle.basis.proofs.Outcome.{stop-below, stop-if, pass-if, pass_below, pass-equal, passed, done-count, values-fit, values-are, and_then-refused-leaves, and_then-done-leaves}
use Rattle.utf16.specs.Points.{is_point, first_not_point}
use Rattle.utf16.specs.Units.{to_units, to_points, first_unpaired}
use Rattle.utf16.specs.Answer.{to_points_outcome}
use Rattle.utf16.proofs.Refusals.{all_done, text-iff}
use Rattle.utf16.proofs.RoundTrip.{some-to_units, text-paired}
use Rattle.labels.specs.Tests.{label_tests}
use Rattle.labels.proofs.FirstTests.{TextPassed}
use Rattle.brace_text.specs.Decoding.{text_of}
use Rattle.brace.specs.Answer.{is_too_long, is_done, is_lawful, encode_outcome, decode_outcome}
use Rattle.brace.specs.Points as points
use Rattle.brace_symbols.proofs.Edges.{label-edges}
use Rattle.brace_symbols.proofs.Labels.{either-false}

-- no unit of a text is an unpaired surrogate
pub text-unpaired : (t : List ℕ) → ltb (first_not_point t) (length t) ≡ false → ltb (first_unpaired (to_units t)) (length (to_units t)) ≡ false
unfolding first_not_point
text-unpaired t e =
    let all : first_not_point t ≡ length t = omega (arith, first-le (length t) (λ k. not (is_point (get_or t k 0))), ltb-false (first_not_point t) (length t) e) in
    le-ltb (first_unpaired (to_units t)) (length (to_units t)) (omega (arith, text-paired t ((text-iff t).0 all)))

-- a row of more than 63 points has more than 63 units, and is refused 3
pub points-long : (capacity : ℕ) (t : List ℕ) → TextPassed capacity t → 63 < length t → encode_outcome capacity (to_units t) ≡ refused 3 0
unfolding encode_outcome is_too_long
points-long capacity t p h =
    let some = some-to_units t in
    let empty : length (to_units t) ≡ 0 → ⊥ = λ e. omega arith in
    let paired = text-paired t ((text-iff t).0 p.points) in
    pass_below 1 0 _ _ _ p.room ∙ pass-equal 2 0 _ _ _ empty ∙ pass_below 10 (first_unpaired (to_units t)) _ (first_unpaired (to_units t)) (length (to_units t)) (omega (arith, paired))
    ∙ pass-if 5 0 _ _ (label-edges (to_units t)) ∙ stop-if 3 0 _ (is_too_long (to_units t)) (rw (lt-ltb 63 (length (to_units t)) (omega (arith, some, h))))

-- a capacity over 63 says the same as 63
pub same-at-63 : (capacity : ℕ) (l : List ℕ) → 63 ≤ capacity → decode_outcome capacity l ≡ decode_outcome 63 l
unfolding decode_outcome label_tests
same-at-63 capacity l room = rw (le-ltb capacity 63 room)

-- what is decoded has at most 63 units, and no unpaired surrogate
record Decoded (l : List ℕ) (n : ℕ) : Type 0 where
  counts : n ≡ length (text_of l)
  short : length (text_of l) ≤ 63
  paired : length (text_of l) ≤ first_unpaired (text_of l)

is-done : (o : Outcome) → is_done o ≡ true → (n : ℕ) × (o ≡ done n)
unfolding is_done
is-done (done n) e = (n, refl)
is-done (refused number position) e = absurd (true-not-false e refl)

module _ (l : List ℕ) (e : is_lawful l ≡ true) where
  lawful-written : (ltb (first_unpaired (text_of l)) (length (text_of l)) ≡ false) × (is_too_long (text_of l) ≡ false)
  unfolding is_lawful encode_outcome
  lawful-written =
      let written = (is-done (encode_outcome 63 (text_of l)) (both_left _ _ e)).1 in
      let paired = passed _ _ _ _ _ (passed _ _ _ _ _ (passed _ _ _ _ _ written).1).1 in
      (paired.0, (passed _ _ _ _ _ (passed _ _ _ _ _ paired.1).1).0)

  pub lawful-short : length (text_of l) ≤ 63
  unfolding is_too_long
  lawful-short = ltb-false 63 _ (either-false _ _ lawful-written.1).0

  lawful-paired : length (text_of l) ≤ first_unpaired (text_of l)
  lawful-paired = ltb-false _ _ lawful-written.0

decoded : (l : List ℕ) (n : ℕ) → decode_outcome 63 l ≡ done n → Decoded l n
unfolding decode_outcome label_tests
decoded l n e =
    let lawful = passed _ _ _ _ _ (passed _ _ _ _ _ (passed _ _ _ _ _ (passed _ _ _ _ _ (passed _ _ _ _ _ (passed _ _ _ _ _ e).1).1).1).1).1 in
    let is = not-false _ lawful.0 in
    record { counts = done-count lawful.1 refl; short = lawful-short l is; paired = lawful-paired l is }

-- so it becomes points, given the room
module _ (capacity n : ℕ) (l now old : List ℕ) (room : 63 ≤ capacity) (e : decode_outcome 63 l ≡ done n) (left : now ≡ buffer_after (decode_outcome 63 l) (text_of l) old) where
  d : Decoded l n
  d = decoded l n e

  units-are : take n now ≡ text_of l
  units-are = values-are (decode_outcome 63 l) (text_of l) old now n e d.counts left

  all-points : to_points_outcome now n capacity ≡ done (length (to_points (text_of l)))
  unfolding to_points_outcome
  all-points =
      all_done (length now) n n capacity (first_unpaired (take n now)) 10 (length (to_points (take n now)))
      (values-fit (decode_outcome 63 l) (text_of l) old now n e d.counts left)
      (omega (arith, room, d.counts, d.short)) (first_unpaired (text_of l)) (rw units-are) (omega (arith, d.counts, d.paired)) (length (to_points (text_of l))) (rw units-are)

  pub points-leave : (answer : Outcome) (buffer after : List ℕ)
      → (answer ≡ to_points_outcome now n capacity) × (after ≡ buffer_after (to_points_outcome now n capacity) (to_points (take n now)) buffer)
      → (answer ≡ points.decode_outcome capacity l) × (after ≡ buffer_after (points.decode_outcome capacity l) (points.text_of l) buffer)
  unfolding points.decode_outcome points.text_of
  points-leave answer buffer after given =
      and_then-done-leaves (decode_outcome capacity l) (done (length (to_points (text_of l)))) answer (to_points (text_of l)) buffer n after (same-at-63 capacity l room ∙ e)
      (rw units-are at (rw all-points at given))

-- and a refusal for units is one for points
pub refusal-leave : (capacity number position : ℕ) (l : List ℕ) → 63 ≤ capacity → decode_outcome 63 l ≡ refused number position
    → (answer : Outcome) (buffer : List ℕ) → answer ≡ refused number position
    → (answer ≡ points.decode_outcome capacity l) × (buffer ≡ buffer_after (points.decode_outcome capacity l) (points.text_of l) buffer)
unfolding points.decode_outcome
refusal-leave capacity number position l room e answer buffer is =
    and_then-refused-leaves (decode_outcome capacity l) _ answer (points.text_of l) buffer number position (same-at-63 capacity l room ∙ e) is

-- a capacity under 63
pub room-leaves : (capacity : ℕ) (l : List ℕ) → capacity < 63 → (answer : Outcome) (buffer : List ℕ) → answer ≡ refused 1 0
    → (answer ≡ points.decode_outcome capacity l) × (buffer ≡ buffer_after (points.decode_outcome capacity l) (points.text_of l) buffer)
unfolding points.decode_outcome decode_outcome label_tests
room-leaves capacity l short answer buffer is =
    and_then-refused-leaves (decode_outcome capacity l) _ answer (points.text_of l) buffer 1 0 (stop-below 1 0 _ capacity 63 short) is
