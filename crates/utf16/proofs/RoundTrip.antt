-- Points to units and back, and units to points and back, give the row that was there.
use Prim.Native.Nat.{ℕ, suc, ◌*◌, ◌%◌, ◌≤◌, ◌<◌}
use mathlib.Core.Path.{◌≡◌, refl, sym, ap, ap₂, ◌∙◌}
use mathlib.Core.Bool.{true, false, not}
use mathlib.Core.List.{List, [], ◌∷◌}
use lib.ListN.{length, get_or}
use borrow.Author.Tests.{not-false}
use native.Mathlib.Omega.{arith}
use Rattle.basis.specs.Tests.{pick, every}
use Rattle.basis.specs.Rows.{AllBelow}
use Rattle.basis.proofs.Tests.{cases, by-lt, true-not-false, both_left, both_right, both_true, from_first, first-none, first-before}
use Rattle.utf16.specs.Points.{is_point, is_text}
use Rattle.utf16.specs.Units.{is_high, is_low, high_of, low_of, pair_of, to_units, points_after, to_points, is_unpaired, unpaired_at, first_unpaired}
use Rattle.utf16.specs.Bytes.{units_of_bytes, bytes_of_units, points_of, bytes_of}
use Rattle.utf16.proofs.Surrogates.{units_small, units-big, point-high, point-low, point-plain, some-units_of, zero-not-high, zero-not-low, high-not-low, point-top, point-not-high, point-not-low, plain-point, high-of, low-of, pair-of, pair-big, pair-high, pair-low, pair-point, unpaired-high, unpaired-low, unpaired-plain}
use Rattle.utf16.proofs.BytePairs.{length-bytes_of_units, units_of_bytes-bytes_of_units, bytes_of_units-units_of_bytes, below-units_of_bytes}
use Rattle.utf16.proofs.Pieces.{length-pieces}
use Rattle.utf16.proofs.Stores.{points_from, units-pieces, text-pieces, points-pieces}

-- a text, its first point and the others
text_head : (p : ℕ) (ps : List ℕ) → is_text (p ∷ ps) ≡ true → is_point p ≡ true
unfolding is_text every
text_head p ps e = both_left _ _ e

text-tail : (p : ℕ) (ps : List ℕ) → is_text (p ∷ ps) ≡ true → is_text ps ≡ true
unfolding is_text every
text-tail p ps e = both_right _ _ e

text-nil : is_text [] ≡ true
unfolding is_text every
text-nil = refl

text-cons : (p : ℕ) (ps : List ℕ) → is_point p ≡ true → is_text ps ≡ true → is_text (p ∷ ps) ≡ true
unfolding is_text every
text-cons p ps h t = both_true h t

-- none of a row of units, after the unit before, is an unpaired surrogate
abbrev AllPaired : ℕ → List ℕ → Type 0
AllPaired before us = (i : ℕ) → i < length us → unpaired_at before us i ≡ false

paired-head : (before u : ℕ) (us : List ℕ) → AllPaired before (u ∷ us) → is_unpaired before u (get_or us 0 0) ≡ false
unfolding unpaired_at
paired-head before u us a = a 0 (omega arith)

paired-tail : (before u : ℕ) (us : List ℕ) → AllPaired before (u ∷ us) → AllPaired u us
unfolding unpaired_at
paired-tail before u us a i h = a (suc i) (omega arith)

paired-cons : (before u : ℕ) (us : List ℕ) → is_unpaired before u (get_or us 0 0) ≡ false → AllPaired u us → AllPaired before (u ∷ us)
unfolding unpaired_at
paired-cons before u us e a = from_first _ _ e a

-- the units of a text, whatever unit is before them: they make its points, are paired, and fit
-- sixteen bits
text-after : (ps : List ℕ) (before : ℕ) → is_text ps ≡ true → (points_after before (to_units ps) ≡ ps) × AllPaired before (to_units ps) × AllBelow 0x10000 (to_units ps)
unfolding to_units points_after
text-after [] before e = (refl, (λ i h. absurd (omega arith)), (λ i h. absurd (omega arith)))
text-after (p ∷ ps) before e =
    let t = text_head p ps e in
    let high = point-not-high p t in
    let low = point-not-low p t in
    let top = point-top p t in
    by-lt p 0x10000
    (λ h.
    let ih = text-after ps p (text-tail p ps e) in
    rw (units_small p (to_units ps) h) (
      point-plain before p _ high low ∙ ap (λ (l : List ℕ). p ∷ l) ih.0,
      paired-cons before p _ (unpaired-plain before p _ high low) ih.1,
      from_first _ _ h ih.2,
    ))
    (λ h.
    let ih = text-after ps (low_of p) (text-tail p ps e) in
    let eh = high-of p h top in
    let el = low-of p h top in
    rw (units-big p (to_units ps) h) (
      point-high before (high_of p) _ eh ∙ point-low (high_of p) (low_of p) _ el ∙ ap₂ ◌∷◌ (pair-of p h top) ih.0,
      paired-cons before (high_of p) _ (unpaired-high before (high_of p) (low_of p) eh ∙ ap not el)
          (paired-cons (high_of p) (low_of p) _ (unpaired-low (high_of p) (low_of p) _ el ∙ ap not eh) ih.1),
      from_first _ _ (omega arith) (from_first _ _ (omega arith) ih.2),
    ))

pub points-back : (ps : List ℕ) → is_text ps ≡ true → to_points (to_units ps) ≡ ps
unfolding to_points
points-back ps e = (text-after ps 0 e).0

pub text-paired : (ps : List ℕ) → is_text ps ≡ true → first_unpaired (to_units ps) ≡ length (to_units ps)
unfolding first_unpaired
text-paired ps e = first-none (length (to_units ps)) (unpaired_at 0 (to_units ps)) (text-after ps 0 e).1

pub text-units : (ps : List ℕ) → is_text ps ≡ true → AllBelow 0x10000 (to_units ps)
text-units ps e = (text-after ps 0 e).2

-- a high surrogate before a row of paired units waits for the row's first unit, a low one
abbrev Waits : ℕ → List ℕ → Type 0
Waits before us = is_high before ≡ true → is_low (get_or us 0 0) ≡ true

none-waits : (u : ℕ) (us : List ℕ) → is_high u ≡ false → Waits u us
none-waits u us h e = absurd (true-not-false e h)

not-waiting : (before : ℕ) (us : List ℕ) → Waits before us → is_low (get_or us 0 0) ≡ false → is_high before ≡ false
not-waiting before us w l = cases (is_high before) (λ e. absurd (true-not-false (w e) l)) (λ e. e)

-- the units of the points of a row are the row, and the high surrogate that waits before it
units-after : (us : List ℕ) (before : ℕ) → AllBelow 0x10000 us → AllPaired before us → Waits before us
    → (to_units (points_after before us) ≡ pick (is_high before) (before ∷ us) us) × (is_text (points_after before us) ≡ true)
unfolding to_units points_after
units-after [] before b a w = (rw (not-waiting before [] w zero-not-low), text-nil)
units-after (u ∷ us) before b a w =
    cases (is_high u)
    (λ h.
    let next : is_low (get_or us 0 0) ≡ true = not-false _ (sym (unpaired-high before u _ h) ∙ paired-head before u us a) in
    let ih = units-after us u (λ i g. b (suc i) (omega arith)) (paired-tail before u us a) (λ _. next) in
    rw (point-high before u (points_after u us) h, not-waiting before (u ∷ us) w (high-not-low u h)) (rw h at ih))
    (λ h.
    let ih = rw h at (units-after us u (λ i g. b (suc i) (omega arith)) (paired-tail before u us a) (none-waits u us h)) in
    cases (is_low u)
    (λ l.
    let first : is_high before ≡ true = not-false _ (sym (unpaired-low before u (get_or us 0 0) l) ∙ paired-head before u us a) in
    rw (point-low before u (points_after u us) l, first) (
      units-big (pair_of before u) _ (pair-big before u first l)
          ∙ ap₂ ◌∷◌ (pair-high before u first l) (ap₂ ◌∷◌ (pair-low before u first l) ih.0),
      text-cons (pair_of before u) _ (pair-point before u first l) ih.1,
    ))
    (λ l. rw (point-plain before u (points_after u us) h l, not-waiting before (u ∷ us) w l) (
      units_small u _ (b 0 (omega arith)) ∙ ap (λ (l : List ℕ). u ∷ l) ih.0,
      text-cons u _ (plain-point u (b 0 (omega arith)) h l) ih.1,
    )))

module _ (us : List ℕ) (b : AllBelow 0x10000 us) (e : first_unpaired us ≡ length us) where
  judged : AllPaired 0 us
  unfolding first_unpaired
  judged i h = first-before (length us) (unpaired_at 0 us) i (rw e h)

  back : (to_units (to_points us) ≡ us) × (is_text (to_points us) ≡ true)
  unfolding to_points
  back = rw zero-not-high at (units-after us 0 b judged (none-waits 0 us zero-not-high))

  pub units-back : to_units (to_points us) ≡ us
  units-back = back.0

  pub units-text : is_text (to_points us) ≡ true
  units-text = back.1

-- there are at least as many units as points and at most twice as many
pub some-to_units : (ps : List ℕ) → length ps ≤ length (to_units ps)
unfolding to_units
some-to_units [] = omega arith
some-to_units (p ∷ ps) = omega (arith, some-units_of p (to_units ps), some-to_units ps)

pub length-to_units : (ps : List ℕ) → length (to_units ps) ≤ 2 * length ps
length-to_units ps = length-pieces (units-pieces ps)

-- at most as many points as units
pub length-to_points : (us : List ℕ) → length (to_points us) ≤ length us
unfolding to_points points_from
length-to_points us = omega (arith, length-pieces (points-pieces us))

-- and at most four bytes for each point
pub length-bytes_of : (ps : List ℕ) → length (bytes_of ps) ≤ 4 * length ps
length-bytes_of ps = length-pieces (text-pieces ps)

-- points, as bytes and back
units_of_bytes-bytes_of : (ps : List ℕ) → units_of_bytes (bytes_of ps) ≡ to_units ps
unfolding bytes_of
units_of_bytes-bytes_of ps = units_of_bytes-bytes_of_units (to_units ps)

pub length-bytes_of-units : (ps : List ℕ) → length (bytes_of ps) ≡ 2 * length (to_units ps)
unfolding bytes_of
length-bytes_of-units ps = length-bytes_of_units (to_units ps)

pub paired-bytes_of : (ps : List ℕ) → is_text ps ≡ true → first_unpaired (units_of_bytes (bytes_of ps)) ≡ length (units_of_bytes (bytes_of ps))
paired-bytes_of ps e = rw (units_of_bytes-bytes_of ps) (text-paired ps e)

pub points_of-bytes_of : (ps : List ℕ) → is_text ps ≡ true → points_of (bytes_of ps) ≡ ps
unfolding points_of
points_of-bytes_of ps e = ap to_points (units_of_bytes-bytes_of ps) ∙ points-back ps e

-- bytes, an even number, as points and back
pub bytes_of-points_of : (bytes : List ℕ) → AllBelow 256 bytes → length bytes % 2 ≡ 0 → first_unpaired (units_of_bytes bytes) ≡ length (units_of_bytes bytes)
    → bytes_of (points_of bytes) ≡ bytes
unfolding bytes_of points_of
bytes_of-points_of bytes below even e =
    ap bytes_of_units (units-back (units_of_bytes bytes) (below-units_of_bytes bytes below) e) ∙ bytes_of_units-units_of_bytes bytes below even
