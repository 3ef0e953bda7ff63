-- Lines stored behind others.
use Prim.Native.Nat.{ℕ, ◌+◌, ◌-◌, ◌^◌, ◌≤◌, ◌<◌}
use mathlib.Core.Path.{◌≡◌, sym, ap, ◌∙◌}
use mathlib.Core.List.{List, ◌++◌, append_assoc}
use lib.ListN.{length, take, drop, length-drop}
use lib.Seq.{sets, sets-eq, length-sets, drop-drop}
use native.Mathlib.Omega.{arith}
use Rattle.basis.specs.Internal.{Stored}
use Rattle.report.specs.Digits.{digit_count}
use Rattle.report.specs.Lines.{side_refused_line}
use Rattle.report.proofs.DigitLaws.{digits-length, count-few}
use Rattle.report.proofs.LineLaws.{number-length, refused-at-length, side-refused-length}
use Rattle.nametable_differences.specs.Report.{report_capacity}
use Rattle.basis.proofs.Parts.{part-is, part-back}

-- a line that was written in front of the part of the output after an index
pub stored-behind : (out line part : List ℕ) (at n : ℕ) → at + length line ≤ length out → (n ≡ length line) × (part ≡ line ++ drop (length line) (take (length out - at) (drop at out)))
    → Stored out at line (take at out ++ (part ++ drop (length out - at) (drop at out))) (at + n)
stored-behind out line part at n fits w =
    let stores : take at out ++ (part ++ drop (length out - at) (drop at out)) ≡ sets out at line
    = part-back at out part ∙ ap (λ (x : List ℕ). take at out ++ x) (w.1 ∙ rw (part-is at out, drop-drop (length line) at out)) ∙ sym (sets-eq line out at fits ∙ append_assoc (take at out) line (drop (at + length line) out)) in
    record { stores = stores; count = omega (arith, w.0); long = ap length stores ∙ length-sets out at line }

-- it has room there
pub behind-fits : (out line : List ℕ) (at : ℕ) → at + length line ≤ length out → length line ≤ length (take (length out - at) (drop at out))
behind-fits out line at fits = rw (part-is at out) (omega (arith, length-drop at out))

-- the line of a refusal has room, whatever its numbers
pub refusal-fits : (side : List ℕ) (number position : ℕ) → length side ≤ 5 → number < 2 ^ 32 → position < 2 ^ 64 → length (side_refused_line side number position) ≤ report_capacity
refusal-fits side number position s n p =
    let few : (k m : ℕ) → m < 2 ^ k → digit_count 10 m m ≤ k = count-few 10 (omega arith) in
    omega (arith, side-refused-length side number position, refused-at-length number position, number-length number, digits-length 10 1 number, few 32 number n, digits-length 10 1 position, few 64 position p)
