-- LACE is as short as it may be: no row of runs has fewer octets than the longest runs of its units, and neither these nor the FF
-- form have fewer than what is written.
use Prim.Native.Nat.{ℕ, ◌+◌, ◌*◌, ◌/◌, ◌%◌, ◌≤◌, ◌<◌}
use mathlib.Core.Path.{◌≡◌, refl, ap}
use mathlib.Core.Logic.{inl, inr}
use mathlib.Core.List.{List, [], ◌∷◌, ◌++◌, map}
use lib.Dec.{eqb, leb}
use lib.ListN.{length}
use borrow.Author.Tests.{eq-eqb, leb-true, leb-false}
use native.Mathlib.Omega.{arith}
use Rattle.basis.specs.Rows.{AllBelow}
use Rattle.basis.proofs.Tests.{cases, by-lt}
use Rattle.basis.proofs.Lists.{below_none, below_more, below-tail}
use Rattle.utf16.specs.Units.{to_units}
use Rattle.utf16.specs.Bytes.{bytes_of_units}
use Rattle.utf16.proofs.BytePairs.{length-bytes_of_units}
use Rattle.utf16.proofs.RoundTrip.{text-units}
use Rattle.alphabet.specs.Alphabet.{lace}
use Rattle.base32.specs.Base32.{quintet_count}
use Rattle.base32.proofs.Values.{length-characters_of}
use Rattle.lace_format.specs.Octets.{unit_of, Run, run, run_units, change_between, changes, run_count}
use Rattle.lace_encoding.specs.Encoding.{join_run, longest_runs, run_octets, octets_of, label_of}
use Rattle.lace_encoding.proofs.Runs.{lows_under, runs_after, longest-is, runs-join, length-run_octets, octets-number}
use Rattle.lace_encoding.proofs.EncodeLaws.{length_label}
use Rattle.lace_facts.proofs.UnitOctets.{written-runs, written_all}
use Rattle.claims.specs.Shortest.{IsRun, AreRuns, Cutting, octets_ff, Candidate, label_with, Shortest}

-- after a unit no more neighbours differ in high octet than there are longest runs of what follows
changes-few : (v : ℕ) (us : List ℕ) → changes v us ≤ run_count us
unfolding changes change_between run_count
changes-few v [] = omega arith
changes-few v (u ∷ us) = cases (eqb (v / 256) (u / 256)) (λ e. rw e (omega arith)) (λ e. rw e (omega arith))

-- nor after the first unit of a run, of what follows the run
run-changes-few : (high low : ℕ) (lows us : List ℕ) → IsRun (run high (low ∷ lows))
    → changes (unit_of high low) (map (unit_of high) lows ++ us) ≤ run_count us
unfolding changes change_between IsRun
run-changes-few high low [] us r = changes-few (unit_of high low) us
run-changes-few high low (next ∷ lows) us r =
    let first : low < 256 = omega (arith, r.2 0 (omega arith)) in
    let second : next < 256 = omega (arith, r.2 1 (omega arith)) in
    let same : unit_of high low / 256 ≡ unit_of high next / 256 = omega arith in
    let rest = run-changes-few high next lows us (r.0, omega arith, below-tail 256 low (next ∷ lows) r.2) in
    rw (eq-eqb _ _ same) (omega arith)

-- so no cutting has fewer runs than there are longest runs
runs-least : (runs : List Run) → AreRuns runs → run_count (run_units runs) ≤ length runs
unfolding AreRuns run_units run_count
runs-least [] a = omega arith
runs-least (run high [] ∷ runs) a = omega (arith, runs-least runs a.1)
runs-least (run high (low ∷ lows) ∷ runs) a = omega (arith, run-changes-few high low lows (run_units runs) a.0, runs-least runs a.1)

-- r longest runs of n units: at most 2r + n octets are written, and at most 2n + 1
octets-few : (us : List ℕ) → (length (octets_of us) ≤ 2 * run_count us + length us) × (length (octets_of us) ≤ 2 * length us + 1)
octets-few us =
    let runs = 2 * run_count us + length us in
    rw (octets-number us)
    (cases (leb runs (2 * length us))
    (λ e. let few = leb-true runs (2 * length us) e in rw e (omega arith, omega arith))
    (λ e. let many = leb-false runs (2 * length us) e in rw e (omega arith, omega arith)))

-- so no candidate has fewer octets than are written
cutting-no-fewer : (us : List ℕ) (runs : List Run) → Cutting us runs → length (octets_of us) ≤ length (run_octets runs)
cutting-no-fewer us runs c =
    let units : run_units runs ≡ us = c.joined in
    omega (arith, runs-least runs c.each, ap run_count units, length-run_octets runs, ap length units, (octets-few us).0)

ff-no-fewer : (us : List ℕ) → length (octets_of us) ≤ length (octets_ff us)
unfolding octets_ff
ff-no-fewer us = omega (arith, (octets-few us).1, length-bytes_of_units us)

candidate-no-fewer : (us octets : List ℕ) → Candidate us octets → length (octets_of us) ≤ length octets
candidate-no-fewer us octets (inl c) = rw c.2 (cutting-no-fewer us c.0 c.1)
candidate-no-fewer us octets (inr e) = rw e (ff-no-fewer us)

-- the length of the label that octets make, which does not fall as they grow in number
length-label_with : (octets : List ℕ) → length (label_with octets) ≡ 4 + quintet_count (length octets)
unfolding label_with
length-label_with octets = omega (arith, length-characters_of lace octets)

-- the longest runs of units are a cutting
after-are-runs : (high : ℕ) (runs : List Run) → AreRuns runs → AllBelow 256 (lows_under high runs) × AreRuns (runs_after high runs)
unfolding lows_under runs_after AreRuns IsRun
after-are-runs high [] a = (below_none 256, a)
after-are-runs high (run other lows ∷ runs) a = cases (eqb high other) (λ e. rw e (a.0.2, a.1)) (λ e. rw e (below_none 256, a))

longest-are-runs : (us : List ℕ) → AllBelow 0x10000 us → AreRuns (longest_runs us)
unfolding longest_runs AreRuns IsRun
longest-are-runs [] b = tt
longest-are-runs (u ∷ us) b =
    let unit : u < 0x10000 = b 0 (omega arith) in
    let after = after-are-runs (u / 256) (longest_runs us) (longest-are-runs us (below-tail 0x10000 u us b)) in
    let lows = lows_under (u / 256) (longest_runs us) in
    rw (longest-is u us) ((omega arith, omega arith, below_more 256 (u % 256) lows (omega arith) after.0), after.1)

longest-cutting : (us : List ℕ) → AllBelow 0x10000 us → Cutting us (longest_runs us)
longest-cutting us b = record { each = longest-are-runs us b; joined = runs-join us }

-- so what is written is a candidate
written-candidate : (us : List ℕ) → AllBelow 0x10000 us → Candidate us (octets_of us)
unfolding octets_ff
written-candidate us b =
    by-lt (length us) (2 * run_count us)
    (λ h. inr (written_all us h))
    (λ h. inl (longest_runs us, longest-cutting us b, written-runs us h))

-- LACE is as short as it may be
pub lace-shortest : Shortest
unfolding label_of label_with
lace-shortest = record {
  label = λ t. refl;
  written = λ t text. written-candidate (to_units t) (text-units t text);
  fewest_octets = λ t octets c. omega (arith, candidate-no-fewer (to_units t) octets c);
  shortest_label = λ t octets c. omega (arith, candidate-no-fewer (to_units t) octets c, length_label t, length-label_with octets);
}

-- worked examples, with the run of U+00FC alone
abbrev one : Run
one = run 0 (0xfc ∷ [])

one-run : IsRun one
unfolding IsRun
one-run = (omega arith, omega arith, below_more 256 0xfc [] (omega arith) (below_none 256))

-- U+00FC: as a run and in the FF form it has three octets
two-forms : Cutting (0xfc ∷ []) (one ∷ []) × (length (run_octets (one ∷ [])) ≡ 3) × (length (octets_ff (0xfc ∷ [])) ≡ 3)
unfolding AreRuns run_units run_octets octets_ff bytes_of_units
two-forms = (record { each = (one-run, tt); joined = refl }, refl, refl)

-- U+00FC twice: as two runs it has six octets, and four are written
two_runs : Cutting (0xfc ∷ 0xfc ∷ []) (one ∷ one ∷ []) × (length (run_octets (one ∷ one ∷ [])) ≡ 6)
    × (length (octets_of (0xfc ∷ 0xfc ∷ [])) ≡ 4)
unfolding AreRuns run_units run_octets octets_of longest_runs join_run
two_runs = (record { each = (one-run, (one-run, tt)); joined = refl }, refl, refl)
