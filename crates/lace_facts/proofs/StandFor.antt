-- The rules of form on octets: octets that keep them are those that their units are written as, and the octets of units keep them.
use Prim.Native.Nat.{ℕ, zero, suc, ◌+◌, ◌*◌, ◌/◌, ◌%◌, ◌≤◌, ◌<◌}
use mathlib.Core.Path.{◌≡◌, refl, sym, ap, ap₂, ◌∙◌, subst}
use mathlib.Core.Bool.{true}
use mathlib.Core.Logic.{inl, inr}
use mathlib.Core.List.{List, [], ◌∷◌, ◌++◌, append_assoc}
use lib.ListN.{length, drop, length-append, get_or-append, drop_of_length-le}
use lib.Seq.{drop-cons, get_or-append_seam, get_or-append-add}
use native.Mathlib.Omega.{arith}
use Rattle.basis.specs.Rows.{at, AllBelow}
use Rattle.basis.proofs.Tests.{by-lt}
use Rattle.basis.proofs.Lists.{below-tail}
use Rattle.utf16.specs.Bytes.{bytes_of_units}
use Rattle.utf16.proofs.BytePairs.{length-bytes_of_units}
use Rattle.lace_format.specs.Octets.{unit_of, Run, run, run_units, run_count}
use Rattle.lace_encoding.specs.Encoding.{longest_runs, run_octets, octets_of}
use Rattle.lace_decoding.specs.Decoding.{units_of, stand_for_units}
use Rattle.lace_encoding.proofs.Runs.{runs-join, runs-count, length-run_octets, units-few}
use Rattle.lace_facts.specs.WellFormed.{AllUnits, RunsFrom, StandFor}
use Rattle.lace_facts.proofs.DistinctRuns.{runs-differ, runs-counted, distinct-runs}
use Rattle.lace_facts.proofs.UnitOctets.{written-runs, written_all, units-all, units-runs, stand-written, stand_read, units-below, units-some}

-- octets in pairs, each of which makes a unit, are the bytes of the units
pairs-bytes : (units pairs : List ℕ) → AllBelow 256 pairs → length pairs ≡ 2 * length units
    → ((i : ℕ) → i < length units → at units i ≡ unit_of (at pairs (2 * i)) (at pairs (1 + 2 * i))) → pairs ≡ bytes_of_units units
unfolding bytes_of_units
pairs-bytes [] [] b n e = refl
pairs-bytes [] (x ∷ pairs) b n e = absurd (omega arith)
pairs-bytes (u ∷ units) [] b n e = absurd (omega arith)
pairs-bytes (u ∷ units) (high ∷ []) b n e = absurd (omega arith)
pairs-bytes (u ∷ units) (high ∷ low ∷ pairs) b n e =
    let unit : u ≡ unit_of high low = e 0 (omega arith) in
    let below : low < 256 = b 1 (omega arith) in
    let h : high ≡ u / 256 = omega arith in
    let l : low ≡ u % 256 = omega arith in
    ap₂ ◌∷◌ h (ap₂ ◌∷◌ l (pairs-bytes units pairs (λ i g. b (suc (suc i)) (omega arith)) (omega arith) later))
  where
    later : (i : ℕ) → i < length units → at units i ≡ unit_of (at pairs (2 * i)) (at pairs (1 + 2 * i))
    later i g =
        let j : 2 * suc i ≡ suc (suc (2 * i)) = omega arith in
        let k : 1 + 2 * suc i ≡ suc (suc (1 + 2 * i)) = omega arith in
        rw (k, j) at (e (suc i) (omega arith))

all-octets : (octets units : List ℕ) → AllBelow 256 octets → AllUnits octets units → octets ≡ 0xff ∷ bytes_of_units units
all-octets [] units b a = absurd (omega (arith, a.count))
all-octets (x ∷ octets) units b a =
    let first : x ≡ 0xff = omega (arith, a.first) in
    ap₂ ◌∷◌ first (pairs-bytes units octets (below-tail 256 x octets b) (omega (arith, a.count)) pairs)
  where
    pairs : (i : ℕ) → i < length units → at units i ≡ unit_of (at octets (2 * i)) (at octets (1 + 2 * i))
    pairs i h =
        let j : 1 + 2 * i ≡ suc (2 * i) = omega arith in
        let k : 2 + 2 * i ≡ suc (1 + 2 * i) = omega arith in
        rw (j, k) at (a.pairs i h)

-- a list whose elements from an index on are those of another
row_from : (xs ys : List ℕ) (from : ℕ) → from + length ys ≤ length xs → ((i : ℕ) → i < length ys → at xs (from + i) ≡ at ys i)
    → drop from xs ≡ ys ++ drop (from + length ys) xs
row_from xs [] from h e = let z : from ≡ from + 0 = omega arith in ap (λ (k : ℕ). drop k xs) z
row_from xs (y ∷ ys) from h e =
    let z : from + 0 ≡ from = omega arith in
    let n : suc from + length ys ≡ from + suc (length ys) = omega arith in
    drop-cons xs from 0 (omega arith)
    ∙ ap₂ ◌∷◌ (rw z at (e 0 (omega arith))) (row_from xs ys (suc from) (omega arith) later ∙ ap (λ (k : ℕ). ys ++ drop k xs) n)
  where
    later : (i : ℕ) → i < length ys → at xs (suc from + i) ≡ at ys i
    later i g = let k : from + suc i ≡ suc from + i = omega arith in rw k at (e (suc i) (omega arith))

-- from an index on the octets are runs: there are at least so many octets, and from there on they are the octets of the runs
runs-inside : (octets : List ℕ) (from : ℕ) (runs : List Run) → RunsFrom octets from runs → from ≤ length octets
unfolding RunsFrom
runs-inside octets from [] r = omega (arith, r)
runs-inside octets from (run high lows ∷ runs) r = omega (arith, runs-inside octets (from + 2 + length lows) runs r.3)

runs-octets : (octets : List ℕ) (from : ℕ) (runs : List Run) → RunsFrom octets from runs → drop from octets ≡ run_octets runs
unfolding RunsFrom run_octets
runs-octets octets from [] r = drop_of_length-le octets {i = from} (omega (arith, r))
runs-octets octets from (run high lows ∷ runs) r =
    let inside = runs-inside octets (from + 2 + length lows) runs r.3 in
    let one : from + 1 ≡ suc from = omega arith in
    let two : suc (suc from) ≡ from + 2 = omega arith in
    let count : at octets from ≡ length lows = omega (arith, r.0) in
    let first : at octets (from + 1) ≡ high = omega (arith, r.1) in
    drop-cons octets from 0 (omega arith)
    ∙ ap₂ ◌∷◌ count
    (drop-cons octets (suc from) 0 (omega arith)
    ∙ ap₂ ◌∷◌ (rw one at first)
    (ap (λ (k : ℕ). drop k octets) two
    ∙ row_from octets lows (from + 2) inside r.2
    ∙ ap (λ (xs : List ℕ). lows ++ xs) (runs-octets octets (from + 2 + length lows) runs r.3)))

-- octets that keep the rules are those that their units are written as
pub form-written : (os units : List ℕ) → AllBelow 256 os → StandFor os units → octets_of units ≡ os
form-written os units b (inl a) = written_all units (omega (arith, a.many)) ∙ sym (all-octets os units b a)
form-written os units b (inr r) =
    let are = runs-octets os 0 r.runs r.are in
    let join : units ≡ run_units r.runs = r.join in
    let longest : longest_runs units ≡ r.runs = ap longest_runs join ∙ distinct-runs r.runs r.differ r.counted (rw are at b) in
    let count : run_count units ≡ length r.runs = sym (runs-count units) ∙ ap length longest in
    written-runs units (omega (arith, count, r.few)) ∙ ap run_octets longest ∙ sym are

-- and are read as those units
pub stand-units : (os units : List ℕ) → AllBelow 256 os → length os ≤ 254 → StandFor os units → units ≡ units_of os
stand-units os units b n (inl a) = sym (ap units_of (all-octets os units b a) ∙ units-all units)
stand-units os units b n (inr r) =
    let are = runs-octets os 0 r.runs r.are in
    let few : length (run_units r.runs) ≤ 254 = omega (arith, length-run_octets r.runs, ap length are) in
    r.join ∙ sym (ap units_of are ∙ units-runs r.runs r.counted few)

form-some : (os units : List ℕ) → octets_of units ≡ os → 1 ≤ length os → 1 ≤ length units
unfolding octets_of longest_runs run_octets
form-some os [] e h = absurd (omega (arith, ap length e))
form-some os (u ∷ units) e h = omega arith

-- octets, one or more, that keep the rules pass the test
pub form-stands : (os units : List ℕ) → AllBelow 256 os → 1 ≤ length os → length os ≤ 254 → StandFor os units → stand_for_units os ≡ true
form-stands os units b some n s =
    let w : octets_of units ≡ os = form-written os units b s in
    let one : 1 ≤ length units = form-some os units w some in
    let below : AllBelow 0x10000 units = rw (stand-units os units b n s) (units-below os b) in
    ap stand_for_units (sym w) ∙ stand-written units below one (omega (arith, units-few units one, ap length w))

-- the bytes of units make them, pair by pair
bytes-pairs : (units : List ℕ) (i : ℕ) → i < length units → at units i ≡ unit_of (at (bytes_of_units units) (2 * i)) (at (bytes_of_units units) (1 + 2 * i))
unfolding bytes_of_units
bytes-pairs [] i h = absurd (omega arith)
bytes-pairs (u ∷ units) zero h = omega arith
bytes-pairs (u ∷ units) (suc i) h =
    let j : 2 * suc i ≡ suc (suc (2 * i)) = omega arith in
    let k : 1 + 2 * suc i ≡ suc (suc (1 + 2 * i)) = omega arith in
    rw (k, j) (bytes-pairs units i (omega arith))

octets-all : (units : List ℕ) → 1 ≤ length units → length units < 2 * run_count units → AllUnits (0xff ∷ bytes_of_units units) units
octets-all units some many = record { first = refl; count = omega (arith, length-bytes_of_units units); pairs = pairs; some = some; many = many }
  where
    pairs : (i : ℕ) → i < length units → at units i ≡ unit_of (at (0xff ∷ bytes_of_units units) (1 + 2 * i)) (at (0xff ∷ bytes_of_units units) (2 + 2 * i))
    pairs i h =
        let j : 1 + 2 * i ≡ suc (2 * i) = omega arith in
        let k : 2 + 2 * i ≡ suc (1 + 2 * i) = omega arith in
        rw (j, k) (bytes-pairs units i h)

-- the octets of runs, after others, are the runs from there on
octets-runs : (before : List ℕ) (runs : List Run) → RunsFrom (before ++ run_octets runs) (length before) runs
unfolding RunsFrom run_octets
octets-runs before [] = omega (arith, length-append before [])
octets-runs before (run high lows ∷ runs) =
    let front = length lows ∷ high ∷ lows in
    let octets = front ++ run_octets runs in
    let n : length (before ++ front) ≡ length before + 2 + length lows = omega (arith, length-append before front) in (
      get_or-append_seam before (length lows) (high ∷ lows ++ run_octets runs) 0,
      get_or-append-add before octets 1 0,
      λ i h.
          let k : length before + 2 + i ≡ length before + suc (suc i) = omega arith in
          rw k (get_or-append-add before octets (suc (suc i)) 0 ∙ get_or-append lows (run_octets runs) 0 i h),
      rw (append_assoc before front (run_octets runs), n) at (octets-runs (before ++ front) runs),
    )

-- the octets of units, one or more, keep the rules
pub written-form : (us : List ℕ) → 1 ≤ length us → StandFor (octets_of us) us
written-form us some =
    by-lt (length us) (2 * run_count us)
    (λ h. inl (rw (written_all us h) (octets-all us some h)))
    (λ h. inr (record {
      runs = longest_runs us;
      are = rw (written-runs us h) (octets-runs [] (longest_runs us));
      join = sym (runs-join us);
      counted = runs-counted us;
      differ = runs-differ us;
      few = rw runs-count h;
    }))

-- and so do octets that pass the test
pub stands-form : (os : List ℕ) → AllBelow 256 os → stand_for_units os ≡ true → StandFor os (units_of os)
stands-form os b e = subst (λ (x : List ℕ). StandFor x (units_of os)) (stand_read os b e) (written-form (units_of os) (units-some os e))
