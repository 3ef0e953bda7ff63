-- How long the lines are: what is printed for a line has room in what is passed for it.
use Prim.Native.Nat.{ℕ, ◌≤◌, ◌<◌}
use mathlib.Core.Path.{◌≡◌, refl}
use mathlib.Core.Bool.{Bool}
use mathlib.Core.List.{List}
use lib.ListN.{length}
use native.Mathlib.Omega.{arith}
use Rattle.basis.specs.Outcome.{Outcome, done, refused, refused_if}
use Rattle.basis.proofs.Outcome.{by-test, done-not-refused}
use Rattle.labels.specs.Tests.{label_tests}
use Rattle.lace.specs.Answer as lace
use Rattle.scheme.specs.Coding.{decode_outcome, text_of}
use Rattle.scheme.specs.declared.Scheme.TheVariants.{Lace}
use Rattle.scheme.proofs.Coding.{decoded-short, decoded-low}
use Rattle.report.specs.Lines.{refused_line}
use Rattle.report.proofs.DigitLaws.{digits-length, count-few}
use Rattle.report.proofs.LineLaws.{number-length, refused-length}
use Rattle.report.proofs.Widths.{points-few}
use Rattle.report.specs.Answer.{line_room}
use Rattle.bench_list.specs.Listing.{line_for, bench_line}
use Rattle.bench_list.proofs.Reading.{lace-line}

-- the numbers of the refusals have at most four digits
refused-few : (number : ℕ) → number < 16 → length (refused_line number) ≤ 13
refused-few number h =
    omega (arith, refused-length number, number-length number, digits-length 10 1 number, count-few 10 (omega arith) 4 number h)

-- the number of a refusal of a label
abbrev Small : Outcome → Type 0
Small outcome = (number position : ℕ) → outcome ≡ refused number position → number < 16

small-done : (n : ℕ) → Small (done n)
small-done n number position e = absurd (done-not-refused refl e)

small-if : (test : Bool) (k p : ℕ) (next : Outcome) → k < 16 → Small next → Small (refused_if test k p next)
small-if test k p next h s = by-test Small test k p next (λ _ number position e. let q : k ≡ number = cc in omega arith) (λ _. s)

small-number : (label : List ℕ) → Small (decode_outcome Lace 63 label)
unfolding lace.decode_outcome label_tests
small-number label =
    small-if _ 1 _ _ (omega arith)
    (small-if _ 2 _ _ (omega arith)
    (small-if _ 3 _ _ (omega arith)
    (small-if _ 8 _ _ (omega arith)
    (small-if _ 7 _ _ (omega arith)
    (small-if _ 9 _ _ (omega arith)
    (small-if _ 6 _ _ (omega arith)
    (small-done _)))))))

-- what is printed for a line has room
pub line-fits : (label : List ℕ) → length (bench_line label) ≤ line_room
unfolding line_for
line-fits label = rw lace-line (by (decode_outcome Lace 63 label) refl)
  where
    by : (outcome : Outcome) → decode_outcome Lace 63 label ≡ outcome → length (line_for outcome (text_of Lace label)) ≤ line_room
    by (done n) e = omega (arith, points-few (text_of Lace label) (decoded-low Lace 63 n label e), decoded-short Lace 63 n label e)
    by (refused number position) e = omega (arith, refused-few number (small-number label number position e))
