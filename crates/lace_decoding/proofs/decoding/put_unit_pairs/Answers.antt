-- An even number of octets with room is not refused, and the last of an odd number makes no unit.
use Prim.Native.Nat.{ℕ, ◌-◌, ◌%◌, ◌≤◌}
use mathlib.Core.Path.{◌≡◌, sym, ap, ◌∙◌}
use mathlib.Core.List.{List}
use lib.ListN.{length, take}
use lib.Seq.{length-take-le}
use native.Mathlib.Omega.{arith}
use Rattle.std.proofs.Common.{rules, Result, Ok, Err, tests}
use Rattle.std.specs.Result.{MatchResult}
use Rattle.basis.specs.Outcome.{done, outcome_by, count_of, buffer_after}
use Rattle.basis.specs.declared.Refusal.{Refusal}
use Rattle.utf16.specs.declared.UnitCount.{UnitCount}
use Rattle.utf16.specs.Bytes.{units_of_bytes}
use Rattle.utf16.specs.Answer.{units_outcome, bytes_to_units_outcome}
use Rattle.utf16.proofs.BytePairs.{units_of_bytes-even}
use Rattle.utf16.proofs.Refusals.{units-done}
use Rattle.lace_decoding.proofs.decoding.put_unit_pairs.Goals as goal

even-done : (os : List ℕ) (capacity : ℕ) → length os ≤ capacity → bytes_to_units_outcome (take (length os - length os % 2) os) capacity ≡ done (length (units_of_bytes os))
even-done os capacity room =
    let long : length (take (length os - length os % 2) os) ≡ length os - length os % 2 = length-take-le _ os (omega arith) in
    units-done _ capacity (omega arith) (λ e. omega arith) _ (ap length (sym (units_of_bytes-even os)))

-- how many units the answer says were written
counted : (answer : Result UnitCount Refusal) (n : ℕ) {Gave : UnitCount → Type 0} → MatchResult answer Gave (λ refusal. n ≡ 0)
    → ((count : UnitCount) → Gave count → n ≡ count.0) → n ≡ count_of (units_outcome answer)
unfolding outcome_by count_of
counted (Ok count) n gave told = told count gave
counted (Err refusal) n e told = e

pub returns : goal.returns
unfolding buffer_after count_of
returns c =
    let octets = c.args.octets.now in
    let is = even-done octets (length c.args.units.now) (omega arith) in
    record {
      value = counted _ _ c.map_or.ensures (λ count gave. search (rules, tests)) ∙ ap count_of (c.bytes_to_units.ensures.result_value ∙ is);
      units_after = c.bytes_to_units.ensures.units_after ∙ rw (is, units_of_bytes-even octets);
    }
