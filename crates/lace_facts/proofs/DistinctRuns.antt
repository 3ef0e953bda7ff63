-- Laws on runs whose neighbours differ and that have units: the longest runs are such, and such runs are the longest of their units.
use Prim.Native.Nat.{ℕ, suc, ◌/◌, ◌%◌, ◌≤◌, ◌<◌}
use mathlib.Core.Path.{◌≡◌, refl, ◌∙◌}
use mathlib.Core.List.{List, [], ◌∷◌, ◌++◌, map}
use lib.Dec.{eqb}
use lib.ListN.{length}
use borrow.Author.Tests.{eqb-true, eqb-false, eq-eqb, ne_eqb}
use native.Mathlib.Omega.{arith}
use Rattle.basis.specs.Rows.{AllBelow}
use Rattle.basis.proofs.Tests.{cases}
use Rattle.basis.proofs.Lists.{below-tail, below_left, below_right}
use Rattle.lace_format.specs.Octets.{unit_of, Run, run, run_units}
use Rattle.lace_encoding.specs.Encoding.{longest_runs, run_octets}
use Rattle.lace_facts.specs.WellFormed.{Counted, Differ}
use Rattle.lace_encoding.proofs.Runs.{lows_under, runs_after, join_is, longest-is}

-- the first run has another high octet
abbrev pub Apart : ℕ → List Run → Type 0
Apart high [] = Unit {0}
Apart high (run other lows ∷ runs) = high ≡ other → ⊥

-- neighbours differ
pub differ-tail : (h : ℕ) (lows : List ℕ) (rs : List Run) → Differ (run h lows ∷ rs) → Apart h rs × Differ rs
unfolding Differ
differ-tail h lows [] d = (tt, tt)
differ-tail h lows (run next more ∷ rs) d = d

pub differ-more : (h : ℕ) (lows : List ℕ) (rs : List Run) → Apart h rs → Differ rs → Differ (run h lows ∷ rs)
unfolding Differ
differ-more h lows [] a d = tt
differ-more h lows (run next more ∷ rs) a d = (a, d)

after-differ : (h : ℕ) (rs : List Run) → Differ rs → Apart h (runs_after h rs) × Differ (runs_after h rs)
unfolding runs_after
after-differ h [] d = (tt, d)
after-differ h (run high lows ∷ rs) d =
    cases (eqb h high)
    (λ e. rw e (rw (eqb-true h high e) (differ-tail high lows rs d)))
    (λ e. rw e (eqb-false h high e, d))

pub runs-differ : (us : List ℕ) → Differ (longest_runs us)
unfolding Differ longest_runs
runs-differ [] = tt
runs-differ (u ∷ us) =
    let a = after-differ (u / 256) (longest_runs us) (runs-differ us) in
    rw (join_is u (longest_runs us))
    (differ-more (u / 256) (u % 256 ∷ lows_under (u / 256) (longest_runs us)) (runs_after (u / 256) (longest_runs us)) a.0 a.1)

-- each has a unit
pub counted-some : (h : ℕ) (lows : List ℕ) (rs : List Run) → Counted (run h lows ∷ rs) → 1 ≤ length lows
unfolding Counted
counted-some h lows rs c = omega (arith, c.0)

after-counted : (h : ℕ) (rs : List Run) → Counted rs → Counted (runs_after h rs)
unfolding runs_after Counted
after-counted h [] c = c
after-counted h (run high lows ∷ rs) c = cases (eqb h high) (λ e. rw e c.1) (λ e. rw e c)

pub runs-counted : (us : List ℕ) → Counted (longest_runs us)
unfolding Counted longest_runs
runs-counted [] = tt
runs-counted (u ∷ us) = rw (join_is u (longest_runs us)) (omega arith, after-counted (u / 256) (longest_runs us) (runs-counted us))

-- runs with units, neighbours differing, are the longest runs of their units
apart_none : (h : ℕ) (rs : List Run) → Apart h rs → (lows_under h rs ≡ []) × (runs_after h rs ≡ rs)
unfolding lows_under runs_after
apart_none h [] a = (refl, refl)
apart_none h (run high lows ∷ rs) a = rw (ne_eqb h high a) (refl, refl)

longest-unit : (h l : ℕ) (us : List ℕ) → l < 256 → longest_runs (unit_of h l ∷ us) ≡ run h (l ∷ lows_under h (longest_runs us)) ∷ runs_after h (longest_runs us)
longest-unit h l us k =
    let d : unit_of h l / 256 ≡ h = omega arith in
    let m : unit_of h l % 256 ≡ l = omega arith in
    longest-is (unit_of h l) us ∙ rw (d, m)

longest_run : (h l : ℕ) (lows us : List ℕ) (rs : List Run) → longest_runs us ≡ rs → Apart h rs → AllBelow 256 (l ∷ lows)
    → longest_runs (map (unit_of h) (l ∷ lows) ++ us) ≡ run h (l ∷ lows) ∷ rs
unfolding lows_under runs_after
longest_run h l [] us rs e a b =
    let n = apart_none h rs a in
    longest-unit h l us (b 0 (omega arith)) ∙ rw (e, n.0, n.1)
longest_run h l (m ∷ lows) us rs e a b =
    longest-unit h l (map (unit_of h) (m ∷ lows) ++ us) (b 0 (omega arith))
    ∙ rw (longest_run h m lows us rs e a (below-tail 256 l (m ∷ lows) b)) (rw (eq-eqb h h refl))

pub distinct-runs : (rs : List Run) → Differ rs → Counted rs → AllBelow 256 (run_octets rs) → longest_runs (run_units rs) ≡ rs
unfolding run_units longest_runs Counted run_octets
distinct-runs [] d c b = refl
distinct-runs (run h [] ∷ rs) d c b = absurd (omega (arith, counted-some h [] rs c))
distinct-runs (run h (l ∷ lows) ∷ rs) d c b =
    let t = differ-tail h (l ∷ lows) rs d in
    let g : AllBelow 256 (l ∷ lows ++ run_octets rs) = λ i k. b (suc (suc i)) (omega arith) in
    longest_run h l lows (run_units rs) rs (distinct-runs rs t.1 c.1 (below_right 256 (l ∷ lows) (run_octets rs) g)) t.0
    (below_left 256 (l ∷ lows) (run_octets rs) g)
