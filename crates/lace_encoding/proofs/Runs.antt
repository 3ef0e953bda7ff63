-- Laws on the longest runs of units, and on the octets of units.
use Prim.Native.Nat.{ℕ, suc, ◌+◌, ◌*◌, ◌/◌, ◌%◌, ◌≤◌, ◌<◌}
use mathlib.Core.Path.{◌≡◌, refl, sym, ap, ap₂, ◌∙◌}
use mathlib.Core.List.{List, [], ◌∷◌, ◌++◌, map}
use lib.Dec.{eqb, leb}
use lib.ListN.{length, length-append, length-map}
use borrow.Author.Tests.{eqb-true, eqb-false, eq-eqb, ne_eqb}
use native.Mathlib.Omega.{arith}
use Rattle.std.proofs.Common.{None, Some}
use Rattle.basis.specs.Tests.{pick}
use Rattle.basis.specs.Rows.{AllBelow}
use Rattle.basis.proofs.Tests.{cases}
use Rattle.basis.proofs.Lists.{below_none, below_more, below-tail}
use Rattle.utf16.specs.Bytes.{bytes_of_units}
use Rattle.utf16.proofs.BytePairs.{length-bytes_of_units, below-bytes_of_units}
use Rattle.lace_format.specs.Octets.{unit_of, Run, run, run_units, change_between, changes, run_count}
use Rattle.lace_encoding.specs.Encoding.{join_run, longest_runs, run_octets, octets_of}
use Rattle.lace_encoding.specs.Internal.{same_high, run_step, run_steps}

-- the low octets of the first run if it has this high octet
unfoldable pub lows_under : ℕ → List Run → List ℕ
lows_under high [] = []
lows_under high (run other lows ∷ runs) = pick (eqb high other) lows []

-- the runs after it, or all of them
unfoldable pub runs_after : ℕ → List Run → List Run
runs_after high [] = []
runs_after high (run other lows ∷ runs) = pick (eqb high other) runs (run other lows ∷ runs)

eqb_swap : (a b : ℕ) → eqb a b ≡ eqb b a
eqb_swap a b =
    cases (eqb b a)
    (λ e. rw e (eq-eqb a b (sym (eqb-true b a e))))
    (λ e. rw e (ne_eqb a b (λ q. eqb-false b a e (sym q))))

-- a unit more is the first of the first run
pub join_is : (u : ℕ) (rs : List Run) → join_run u rs ≡ run (u / 256) (u % 256 ∷ lows_under (u / 256) rs) ∷ runs_after (u / 256) rs
unfolding join_run lows_under runs_after
join_is u [] = refl
join_is u (run high lows ∷ rs) =
    cases (eqb (u / 256) high)
    (λ e. rw e (rw (eqb-true (u / 256) high e)))
    (λ e. rw e)

pub longest-is : (u : ℕ) (us : List ℕ)
    → longest_runs (u ∷ us) ≡ run (u / 256) (u % 256 ∷ lows_under (u / 256) (longest_runs us)) ∷ runs_after (u / 256) (longest_runs us)
unfolding longest_runs
longest-is u us = join_is u (longest_runs us)

-- the longest runs hold the units
units-parted : (h : ℕ) (rs : List Run) → map (unit_of h) (lows_under h rs) ++ run_units (runs_after h rs) ≡ run_units rs
unfolding lows_under runs_after run_units
units-parted h [] = refl
units-parted h (run high lows ∷ rs) = cases (eqb h high) (λ e. rw (e, eqb-true h high e)) (λ e. rw e)

pub runs-join : (us : List ℕ) → run_units (longest_runs us) ≡ us
unfolding run_units longest_runs
runs-join [] = refl
runs-join (u ∷ us) =
    let e : unit_of (u / 256) (u % 256) ≡ u = omega arith in
    ap run_units (longest-is u us) ∙ ap₂ ◌∷◌ e (units-parted (u / 256) (longest_runs us) ∙ runs-join us)

-- they number one more than the neighbours that differ in high octet
count-changes : (v : ℕ) (us : List ℕ) → length (runs_after (v / 256) (longest_runs us)) ≡ changes v us
unfolding change_between changes longest_runs runs_after
count-changes v [] = refl
count-changes v (u ∷ us) =
    let i = count-changes u us in
    rw (join_is u (longest_runs us)) (cases (eqb (v / 256) (u / 256)) (λ e. rw e (omega arith)) (λ e. rw e (omega arith)))

pub runs-count : (us : List ℕ) → length (longest_runs us) ≡ run_count us
unfolding run_count longest_runs
runs-count [] = refl
runs-count (u ∷ us) = rw (join_is u (longest_runs us)) (ap suc (count-changes u us))

-- the octets of the runs, unit by unit
same-high : (h : ℕ) (us : List ℕ) → same_high h us ≡ length (lows_under h (longest_runs us))
unfolding same_high longest_runs lows_under
same-high h [] = refl
same-high h (u ∷ us) =
    rw (join_is u (longest_runs us), eqb_swap h (u / 256))
    (cases (eqb (u / 256) h)
    (λ e. rw e (ap suc (ap (λ k. same_high k us) (sym (eqb-true (u / 256) h e)) ∙ same-high (u / 256) us)))
    (λ e. rw e))

steps-left : (before : ℕ) (us : List ℕ) → run_steps (Some before) us ≡ lows_under before (longest_runs us) ++ run_octets (runs_after before (longest_runs us))
unfolding run_steps run_step longest_runs lows_under runs_after run_octets
steps-left before [] = refl
steps-left before (u ∷ us) =
    rw (join_is u (longest_runs us), steps-left (u / 256) us)
    (cases (eqb before (u / 256)) (λ e. rw e) (λ e. rw (e, same-high (u / 256) us)))

pub runs-steps : (us : List ℕ) → run_steps None us ≡ run_octets (longest_runs us)
unfolding run_steps run_step longest_runs run_octets
runs-steps [] = refl
runs-steps (u ∷ us) = rw (join_is u (longest_runs us), steps-left (u / 256) us, same-high (u / 256) us)

-- how many octets the runs have
pub length-run_octets : (rs : List Run) → length (run_octets rs) ≡ 2 * length rs + length (run_units rs)
unfolding run_octets run_units
length-run_octets [] = refl
length-run_octets (run high lows ∷ rs) =
    let i = length-run_octets rs in
    omega (arith, length-append lows (run_octets rs), length-append (map (unit_of high) lows) (run_units rs), length-map lows (unit_of high))

-- the octets of n units in r runs number 2r + n or 2n + 1
pub octets-number : (us : List ℕ) → length (octets_of us) ≡ pick (leb (2 * run_count us + length us) (2 * length us)) (2 * run_count us + length us) (2 * length us + 1)
unfolding octets_of
octets-number us =
    rw runs-count
    (cases (leb (2 * run_count us + length us) (2 * length us))
    (λ e. rw e (length-run_octets (longest_runs us) ∙ rw (runs-count, runs-join)))
    (λ e. rw e (let l = length-bytes_of_units us in omega arith)))

-- two more than the units at least
pub units-few : (us : List ℕ) → 1 ≤ length us → length us + 2 ≤ length (octets_of us)
unfolding run_count
units-few [] h = absurd (omega arith)
units-few (u ∷ us) h =
    rw (octets-number (u ∷ us))
    (cases (leb (2 * run_count (u ∷ us) + length (u ∷ us)) (2 * length (u ∷ us)))
    (λ e. rw e (omega arith))
    (λ e. rw e (omega arith)))

-- the octets of at most 254 units are octets
lows-few : (h : ℕ) (rs : List Run) → length (lows_under h rs) ≤ length (run_units rs)
lows-few h rs =
    omega (arith, length-append (map (unit_of h) (lows_under h rs)) (run_units (runs_after h rs)), length-map (lows_under h rs) (unit_of h), ap length (units-parted h rs))

parted-below : (h : ℕ) (rs : List Run) → AllBelow 256 (run_octets rs) → AllBelow 256 (lows_under h rs ++ run_octets (runs_after h rs))
unfolding lows_under runs_after run_octets
parted-below h [] b = b
parted-below h (run high lows ∷ rs) b = cases (eqb h high) (λ e. rw e (λ i k. b (suc (suc i)) (omega arith))) (λ e. rw e b)

runs-below : (us : List ℕ) → AllBelow 0x10000 us → length us ≤ 254 → AllBelow 256 (run_octets (longest_runs us))
unfolding longest_runs run_octets
runs-below [] b n = below_none 256
runs-below (u ∷ us) b n =
    let unit : u < 0x10000 = b 0 (omega arith) in
    let lows = lows_under (u / 256) (longest_runs us) in
    let octets = lows ++ run_octets (runs_after (u / 256) (longest_runs us)) in
    let few : length lows ≤ length us = rw runs-join at (lows-few (u / 256) (longest_runs us)) in
    let below = parted-below (u / 256) (longest_runs us) (runs-below us (below-tail 0x10000 u us b) (omega arith)) in
    rw (join_is u (longest_runs us))
    (below_more 256 (suc (length lows)) (u / 256 ∷ u % 256 ∷ octets) (omega arith)
    (below_more 256 (u / 256) (u % 256 ∷ octets) (omega arith) (below_more 256 (u % 256) octets (omega arith) below)))

pub octets-below : (us : List ℕ) → AllBelow 0x10000 us → length us ≤ 254 → AllBelow 256 (octets_of us)
unfolding octets_of
octets-below us b n =
    cases (leb (2 * length (longest_runs us) + length us) (2 * length us))
    (λ e. rw e (runs-below us b n))
    (λ e. rw e (below_more 256 255 (bytes_of_units us) (omega arith) (below-bytes_of_units us b)))
