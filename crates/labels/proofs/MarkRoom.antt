-- Reading with marks: the room for them is tested first, and then the answer and the text are those without marks.
use Prim.Native.Nat.{ℕ, ◌≤◌, ◌<◌}
use mathlib.Core.Path.{◌≡◌, sym, ◌∙◌}
use mathlib.Core.List.{List, ◌++◌}
use lib.ListN.{drop}
use Rattle.basis.specs.Outcome.{Outcome, done, refused, buffer_after}
use Rattle.basis.proofs.Outcome.{stop-below, refused-leaves, done-leaves}
use Rattle.labels.specs.Tests.{marks_room_test}
use Rattle.labels.proofs.MarkTests.{room-pass}

-- what is answered and left, by the outcome of reading without marks, its text and the marks
module _ (decoded : Outcome) (values shown text marks : List ℕ) (capacity : ℕ) where
  abbrev outcome : Outcome
  outcome = marks_room_test capacity decoded

  pub room-refused : capacity < 63 → (answer : Outcome) → answer ≡ refused 1 0
      → (answer ≡ outcome) × ((text ≡ buffer_after outcome values text) × (marks ≡ buffer_after outcome shown marks))
  unfolding marks_room_test
  room-refused h answer a =
      let e = stop-below 1 0 decoded capacity 63 h in
      (a ∙ sym e, ((refused-leaves _ values text 1 0 e).1, (refused-leaves _ shown marks 1 0 e).1))

  module _ (room : 63 ≤ capacity) (later : List ℕ) (left : later ≡ buffer_after decoded values text) where
    pub decoded-refused : (number position : ℕ) → decoded ≡ refused number position → (answer : Outcome) → answer ≡ refused number position
        → (answer ≡ outcome) × ((later ≡ buffer_after outcome values text) × (marks ≡ buffer_after outcome shown marks))
    decoded-refused number position e answer a =
        let same = room-pass capacity decoded room in
        rw same (a ∙ sym e, (left, (refused-leaves _ shown marks number position e).1))

    pub decoded-done : (count : ℕ) → decoded ≡ done count → (stored : List ℕ) → stored ≡ shown ++ drop count marks
        → (done count ≡ outcome) × ((later ≡ buffer_after outcome values text) × (stored ≡ buffer_after outcome shown marks))
    decoded-done count e stored s =
        let same = room-pass capacity decoded room in
        rw same (sym e, (left, (done-leaves _ shown marks stored count e s).1))
