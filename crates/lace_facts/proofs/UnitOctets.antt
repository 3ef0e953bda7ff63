-- Laws on octets and units: what is written is read as its units, and what is read is written as its octets.
use Prim.Native.Nat.{ℕ, zero, suc, ◌+◌, ◌*◌, ◌%◌, ◌≤◌, ◌<◌}
use mathlib.Core.Path.{◌≡◌, refl, sym, ap, ap₂, ◌∙◌}
use mathlib.Core.Bool.{true, false, not}
use mathlib.Core.List.{List, [], ◌∷◌, ◌++◌, map}
use lib.Dec.{eqb, ltb}
use lib.ListN.{length, length-append, length-map, drop, length-drop}
use lib.Seq.{get_or-drop}
use borrow.Author.Tests.{eqb-true, eqb-false, eq-eqb, ne_eqb, ltb-true, lt-ltb, le-ltb, leb-true, le-leb, lt-leb, not-true}
use native.Mathlib.Omega.{arith}
use Rattle.std.proofs.Common.{Option, None, Some}
use Rattle.std.specs.Option.{option_eq}
use Rattle.basis.specs.Tests.{both}
use Rattle.basis.specs.Rows.{AllBelow}
use Rattle.basis.proofs.Tests.{cases, by-lt, both_left, both_right, both_true, true-not-false}
use Rattle.basis.proofs.Lists.{below_none, below_more, below-tail}
use Rattle.utf16.specs.Bytes.{bytes_of_units}
use Rattle.utf16.proofs.BytePairs.{length-bytes_of_units, units_of_bytes-bytes_of_units, bytes_of_units-units_of_bytes, below-units_of_bytes}
use Rattle.lace_format.specs.Octets.{unit_of, Run, run, run_units, run_count}
use Rattle.lace_encoding.specs.Encoding.{longest_runs, run_octets, octets_of}
use Rattle.lace_facts.specs.WellFormed.{Counted, Differ}
use Rattle.lace_decoding.specs.Decoding.{may_stand, place_after, may_end, unit_at, are_runs, units_from, begins_ff, units_of, stand_for_units}
use Rattle.lace_decoding.specs.declared.decoding.Place.{Place}
use Rattle.lace_decoding.specs.declared.decoding.Place.TheVariants.{Count, High, Low}
use Rattle.lace_encoding.proofs.Runs.{runs-join, runs-count}
use Rattle.lace_facts.proofs.DistinctRuns.{Apart, differ-tail, differ-more, runs-differ, counted-some, runs-counted, distinct-runs}

-- the place after a low octet, the last of a run and any other
after_last : (h x : ℕ) → place_after (Low 1 h) x ≡ Count (Some h)
unfolding place_after
after_last h x = refl

after_more : (n h x : ℕ) → place_after (Low (suc (suc n)) h) x ≡ Low (suc n) h
unfolding place_after
after_more n h x = rw (le-ltb (suc (suc n)) 2 (omega arith)) (ap (λ (k : ℕ). Low k h) (omega arith))

-- the low octets of a run are read up to the next count
lows-stand : (h l : ℕ) (lows os : List ℕ) → are_runs (Low (length (l ∷ lows)) h) (l ∷ lows ++ os) ≡ are_runs (Count (Some h)) os
unfolding are_runs may_stand both
lows-stand h l [] os = rw (after_last h l)
lows-stand h l (m ∷ lows) os = rw (after_more (length lows) h l) (lows-stand h m lows os)

lows-read : (h l : ℕ) (lows os : List ℕ) → units_from (Low (length (l ∷ lows)) h) (l ∷ lows ++ os) ≡ map (unit_of h) (l ∷ lows) ++ units_from (Count (Some h)) os
unfolding units_from unit_at
lows-read h l [] os = rw (after_last h l)
lows-read h l (m ∷ lows) os = rw (after_more (length lows) h l) (ap (λ (us : List ℕ). unit_of h l ∷ us) (lows-read h m lows os))

-- runs are read as their units
runs-read : (previous : Option ℕ) (rs : List Run) → Counted rs → units_from (Count previous) (run_octets rs) ≡ run_units rs
unfolding units_from unit_at place_after run_octets run_units Counted
runs-read previous [] c = refl
runs-read previous (run h [] ∷ rs) c = absurd (omega (arith, counted-some h [] rs c))
runs-read previous (run h (l ∷ lows) ∷ rs) c =
    lows-read h l lows (run_octets rs) ∙ ap (λ (us : List ℕ). map (unit_of h) (l ∷ lows) ++ us) (runs-read (Some h) rs c.1)

-- the first run has another high octet than the run before, if there was one
abbrev ApartFrom : Option ℕ → List Run → Type 0
ApartFrom None rs = Unit {0}
ApartFrom (Some high) rs = Apart high rs

other-high : (previous : Option ℕ) (h : ℕ) (lows : List ℕ) (rs : List Run) → ApartFrom previous (run h lows ∷ rs) → not (option_eq eqb previous (Some h)) ≡ true
other-high None h lows rs a = refl
other-high (Some high) h lows rs a = ap not (ne_eqb high h a)

-- and are runs
runs-stand : (previous : Option ℕ) (rs : List Run) → Counted rs → Differ rs → ApartFrom previous rs → (previous ≡ None → 1 ≤ length rs) → are_runs (Count previous) (run_octets rs) ≡ true
unfolding are_runs may_stand may_end place_after run_octets Counted
runs-stand None [] c d a some = absurd (omega (arith, some refl))
runs-stand (Some high) [] c d a some = refl
runs-stand previous (run h [] ∷ rs) c d a some = absurd (omega (arith, counted-some h [] rs c))
runs-stand previous (run h (l ∷ lows) ∷ rs) c d a some =
    let t = differ-tail h (l ∷ lows) rs d in
    both_true (ap not (ne_eqb (length (l ∷ lows)) 0 (λ e. omega arith)))
    (both_true (other-high previous h (l ∷ lows) rs a)
    (lows-stand h l lows (run_octets rs) ∙ runs-stand (Some h) rs c.1 t.1 t.0 (λ e. let z : ◌≡◌ {A = ℕ} 0 1 = cc in omega arith)))

-- the octets of units, by the number of their runs
pub written-runs : (us : List ℕ) → 2 * run_count us ≤ length us → octets_of us ≡ run_octets (longest_runs us)
unfolding octets_of
written-runs us h = rw runs-count (rw (le-leb (2 * run_count us + length us) (2 * length us) (omega arith)))

pub written_all : (us : List ℕ) → length us < 2 * run_count us → octets_of us ≡ 0xff ∷ bytes_of_units us
unfolding octets_of
written_all us h = rw runs-count (rw (lt-leb (2 * run_count us + length us) (2 * length us) (omega arith)))

-- the units of either form
pub units-all : (us : List ℕ) → units_of (0xff ∷ bytes_of_units us) ≡ us
unfolding units_of
units-all us = units_of_bytes-bytes_of_units us

begins-count : (rs : List Run) → length (run_units rs) ≤ 254 → begins_ff (run_octets rs) ≡ false
unfolding run_octets run_units
begins-count [] h = refl
begins-count (run high lows ∷ rs) h =
    ne_eqb (length lows) 255 (λ e. omega (arith, length-append (map (unit_of high) lows) (run_units rs), length-map lows (unit_of high)))

pub units-runs : (rs : List Run) → Counted rs → length (run_units rs) ≤ 254 → units_of (run_octets rs) ≡ run_units rs
unfolding units_of
units-runs rs c h = rw (begins-count rs h) (runs-read None rs c)

-- units have a run
some_runs : (us : List ℕ) → 1 ≤ length us → 1 ≤ run_count us
unfolding run_count
some_runs [] h = absurd (omega arith)
some_runs (u ∷ us) h = omega arith

-- what is written is read as the units, and stands for them
pub units-written : (us : List ℕ) → AllBelow 0x10000 us → length us ≤ 254 → 1 ≤ length us → units_of (octets_of us) ≡ us
units-written us b few some =
    by-lt (length us) (2 * run_count us)
    (λ h. ap units_of (written_all us h) ∙ units-all us)
    (λ h. ap units_of (written-runs us h) ∙ units-runs (longest_runs us) (runs-counted us) (rw runs-join few) ∙ runs-join us)

pub stand-written : (us : List ℕ) → AllBelow 0x10000 us → 1 ≤ length us → length us ≤ 254 → stand_for_units (octets_of us) ≡ true
unfolding stand_for_units
stand-written us b some few =
    rw (units-written us b few some)
    (by-lt (length us) (2 * run_count us)
    (λ h. rw (written_all us h) (both_true (eq-eqb (suc (length (bytes_of_units us)) % 2) 1 (omega (arith, length-bytes_of_units us))) (lt-ltb _ _ h)))
    (λ h.
    rw (written-runs us h, begins-count (longest_runs us) (rw runs-join few))
    (both_true
    (runs-stand None (longest_runs us) (runs-counted us) (runs-differ us) tt (λ e. rw runs-count (some_runs us some)))
    (le-leb _ _ h))))

-- what follows a run of this high octet, if there was one: runs that keep the rules
record MoreRuns (previous : Option ℕ) (octets : List ℕ) : Type 0 where
  runs : List Run
  are : octets ≡ run_octets runs
  counted : Counted runs
  differ : Differ runs
  apart : ApartFrom previous runs

-- so many low octets under this high octet, and what follows the run
record LowsThen (left high : ℕ) (octets : List ℕ) : Type 0 where
  lows : List ℕ
  rest : List ℕ
  are : octets ≡ lows ++ rest
  count : length lows ≡ left
  follows : MoreRuns (Some high) rest

-- a high octet other than the previous one, and so many low octets
record HighThen (previous : Option ℕ) (count : ℕ) (octets : List ℕ) : Type 0 where
  high : ℕ
  rest : List ℕ
  are : octets ≡ high ∷ rest
  other : (runs : List Run) → (lows : List ℕ) → ApartFrom previous (run high lows ∷ runs)
  follows : LowsThen count high rest

-- a run and what follows it
run-before : (previous : Option ℕ) (count : ℕ) (octets : List ℕ) → 1 ≤ count → HighThen previous count octets → MoreRuns previous (count ∷ octets)
unfolding run_octets Counted
run-before previous count octets some h =
    let l = h.follows in
    let r = l.follows in
    record {
      runs = run h.high l.lows ∷ r.runs;
      are = ap₂ ◌∷◌ (sym l.count) (h.are ∙ ap (λ (xs : List ℕ). h.high ∷ xs) (l.are ∙ ap (λ (xs : List ℕ). l.lows ++ xs) r.are));
      counted = (rw l.count some, r.counted);
      differ = differ-more h.high l.lows r.runs r.apart r.differ;
      apart = h.other r.runs l.lows;
    }

low-before : (left x high : ℕ) (octets : List ℕ) → LowsThen left high octets → LowsThen (suc left) high (x ∷ octets)
low-before left x high octets l = record {
  lows = x ∷ l.lows;
  rest = l.rest;
  are = ap (λ (xs : List ℕ). x ∷ xs) l.are;
  count = ap suc l.count;
  follows = l.follows;
}

-- what follows a place from which the octets are runs
abbrev Follows : Place → List ℕ → Type 0
Follows (Count previous) octets = MoreRuns previous octets
Follows (High previous count) octets = 1 ≤ count → HighThen previous count octets
Follows (Low left high) octets = 1 ≤ left → LowsThen left high octets

apart-by : (previous : Option ℕ) (h : ℕ) (lows : List ℕ) (rs : List Run) → not (option_eq eqb previous (Some h)) ≡ true → ApartFrom previous (run h lows ∷ rs)
apart-by None h lows rs e = tt
apart-by (Some high) h lows rs e = eqb-false high h (not-true _ e)

follow : (place : Place) (octets : List ℕ) → are_runs place octets ≡ true → Follows place octets
unfolding are_runs may_stand place_after may_end run_octets Counted Differ
follow (Count None) [] e = absurd (true-not-false e refl)
follow (Count (Some high)) [] e = record { runs = []; are = refl; counted = tt; differ = tt; apart = tt }
follow (High previous count) [] e = absurd (true-not-false e refl)
follow (Low left high) [] e = absurd (true-not-false e refl)
follow (Count previous) (x ∷ octets) e =
    let none : x ≡ 0 → ⊥ = eqb-false x 0 (not-true _ (both_left _ _ e)) in
    let some : 1 ≤ x = omega arith in
    run-before previous x octets some (follow (High previous x) octets (both_right _ _ e) some)
follow (High previous count) (x ∷ octets) e = λ some. record {
  high = x;
  rest = octets;
  are = refl;
  other = λ runs lows. apart-by previous x lows runs (both_left _ _ e);
  follows = follow (Low count x) octets (both_right _ _ e) some;
}
follow (Low zero high) (x ∷ octets) e = λ some. absurd (omega arith)
follow (Low (suc zero) high) (x ∷ octets) e = λ some.
    low-before 0 x high octets
    (record { lows = []; rest = octets; are = refl; count = refl; follows = follow (Count (Some high)) octets (both_right _ _ e) })
follow (Low (suc (suc left)) high) (x ∷ octets) e = λ some.
    low-before (suc left) x high octets
    (follow (Low (suc left) high) octets (rw (after_more left high x) at (both_right _ _ e)) (omega arith))

-- what it means for octets to stand for units, after FF and otherwise
stand-all : (os : List ℕ) → begins_ff os ≡ true → stand_for_units os ≡ true → (length os % 2 ≡ 1) × (length (units_of os) < 2 * run_count (units_of os))
unfolding stand_for_units
stand-all os f e = let s = rw f at e in (eqb-true (length os % 2) 1 (both_left _ _ s), ltb-true _ _ (both_right _ _ s))

stand-runs : (os : List ℕ) → begins_ff os ≡ false → stand_for_units os ≡ true → (are_runs (Count None) os ≡ true) × (2 * run_count (units_of os) ≤ length (units_of os))
unfolding stand_for_units
stand-runs os f e = let s = rw f at e in (both_left _ _ s, leb-true _ _ (both_right _ _ s))

-- octets that stand for units are those of their units
read_all : (os : List ℕ) → AllBelow 256 os → begins_ff os ≡ true → length os % 2 ≡ 1 → length (units_of os) < 2 * run_count (units_of os) → octets_of (units_of os) ≡ os
unfolding units_of
read_all [] b f odd many = absurd (omega arith)
read_all (x ∷ os) b f odd many =
    written_all (units_of (x ∷ os)) many
    ∙ ap₂ ◌∷◌ (sym (eqb-true x 255 f)) (rw f (bytes_of_units-units_of_bytes os (below-tail 256 x os b) (omega arith)))

read-runs : (os : List ℕ) → AllBelow 256 os → begins_ff os ≡ false → MoreRuns None os → 2 * run_count (units_of os) ≤ length (units_of os) → octets_of (units_of os) ≡ os
unfolding units_of
read-runs os b f r few =
    let below : AllBelow 256 (run_octets r.runs) = rw r.are at b in
    let units : units_of os ≡ run_units r.runs = rw f (ap (units_from (Count None)) r.are ∙ runs-read None r.runs r.counted) in
    written-runs (units_of os) few
    ∙ ap run_octets (ap longest_runs units ∙ distinct-runs r.runs r.differ r.counted below)
    ∙ sym r.are

pub stand_read : (os : List ℕ) → AllBelow 256 os → stand_for_units os ≡ true → octets_of (units_of os) ≡ os
stand_read os b e =
    cases (begins_ff os)
    (λ f. let s = stand-all os f e in read_all os b f s.0 s.1)
    (λ f. let s = stand-runs os f e in read-runs os b f (follow (Count None) os s.0) s.1)

-- the units of octets are units: the high octet of a place, if it has one, is an octet
abbrev HighBelow : Place → Type 0
HighBelow (Count previous) = Unit {0}
HighBelow (High previous count) = Unit {0}
HighBelow (Low left high) = high < 256

from-below : (place : Place) (os : List ℕ) → HighBelow place → AllBelow 256 os → AllBelow 0x10000 (units_from place os)
unfolding units_from unit_at place_after
from-below place [] h b = below_none 0x10000
from-below (Count previous) (x ∷ os) h b = from-below (High previous x) os tt (below-tail 256 x os b)
from-below (High previous count) (x ∷ os) h b = from-below (Low count x) os (b 0 (omega arith)) (below-tail 256 x os b)
from-below (Low left high) (x ∷ os) h b =
    below_more 0x10000 (unit_of high x) (units_from (place_after (Low left high) x) os) (let l : x < 256 = b 0 (omega arith) in omega arith)
    (from-below (place_after (Low left high) x) os (cases (ltb left 2) (λ e. rw e tt) (λ e. rw e h)) (below-tail 256 x os b))

pub units-below : (os : List ℕ) → AllBelow 256 os → AllBelow 0x10000 (units_of os)
unfolding units_of
units-below os b =
    cases (begins_ff os)
    (λ f. rw f (below-units_of_bytes (drop 1 os) (λ i h. rw (get_or-drop 1 os i 0) (b (1 + i) (omega (arith, length-drop 1 os))))))
    (λ f. rw f (from-below (Count None) os tt b))

-- one at least
many-some : (us : List ℕ) → length us < 2 * run_count us → 1 ≤ length us
unfolding run_count
many-some [] h = absurd (omega arith)
many-some (u ∷ us) h = omega arith

from_some : (os : List ℕ) → are_runs (Count None) os ≡ true → 1 ≤ length (units_from (Count None) os)
unfolding are_runs may_end place_after units_from unit_at
from_some [] e = absurd (true-not-false e refl)
from_some (x ∷ []) e = absurd (true-not-false (both_right _ _ e) refl)
from_some (x ∷ y ∷ []) e = absurd (true-not-false (both_right _ _ (both_right _ _ e)) refl)
from_some (x ∷ y ∷ z ∷ os) e = omega arith

pub units-some : (os : List ℕ) → stand_for_units os ≡ true → 1 ≤ length (units_of os)
unfolding units_of
units-some os e =
    cases (begins_ff os)
    (λ f. many-some (units_of os) (stand-all os f e).1)
    (λ f. rw f (from_some os (stand-runs os f e).0))
