-- The pieces that the conversions store, and what one element stores.
use Prim.Native.Nat.{ℕ, suc, ◌+◌, ◌≤◌, ◌<◌}
use mathlib.Core.Path.{◌≡◌, refl, ap, ◌∙◌}
use mathlib.Core.Bool.{true, false}
use mathlib.Core.List.{List, [], ◌∷◌, ◌++◌}
use lib.Dec.{ltb}
use lib.ListN.{length, get_or, drop, set, drop_of_length-le}
use lib.Seq.{drop-cons}
use native.Mathlib.Numerals.{add-one}
use native.Mathlib.Omega.{arith}
use Rattle.basis.proofs.Tests.{cases}
use Rattle.basis.proofs.Stores.{Stored, stored-none, stored_one, stored-append}
use Rattle.utf16.specs.Units.{is_high, is_low, high_of, low_of, pair_of, units_of, to_units, point_of, points_after, to_points}
use Rattle.utf16.specs.Bytes.{bytes_of_units, bytes_of}
use Rattle.utf16.proofs.Surrogates.{units_small, units-big, point-high, point-low, point-plain, length-units_of, length-point_of}
use Rattle.utf16.proofs.BytePairs.{length-bytes_of_units, bytes_of_units-append}
use Rattle.utf16.proofs.Pieces.{Pieces, Putting, putting-none, putting-more, putting-all, each-pieces}

-- the units of a point stored from index at on
module _ (buffer : List ℕ) (at p : ℕ) where
  pub put_small : p < 0x10000 → Stored buffer at (units_of p []) (set buffer at p) (at + 1)
  put_small h = rw (units_small p [] h) (stored_one _ _ _)

  pub put-big : 0x10000 ≤ p → (high low : ℕ) → high ≡ high_of p → low ≡ low_of p
      → Stored buffer at (units_of p []) (set (set buffer at high) (at + 1) low) (at + 2)
  put-big h high low u d =
      let e : at + 2 ≡ at + 1 + 1 = omega arith in
      rw (units-big p [] h, ← u, ← d, e) (stored-append (stored_one _ _ _) (stored_one _ _ _))

  -- the same of their bytes
  pub put-small-bytes : p < 0x10000 → {now : List ℕ} → Stored buffer at (bytes_of_units (p ∷ [])) now (at + 2)
      → Stored buffer at (bytes_of_units (units_of p [])) now (at + 2)
  put-small-bytes h s = rw (units_small p [] h) s

  pub put-big-bytes : 0x10000 ≤ p → (high low : ℕ) → high ≡ high_of p → low ≡ low_of p
      → {between now : List ℕ} → Stored buffer at (bytes_of_units (high ∷ [])) between (at + 2) → Stored between (at + 2) (bytes_of_units (low ∷ [])) now (at + 2 + 2)
      → Stored buffer at (bytes_of_units (units_of p [])) now (at + 4)
  unfolding bytes_of_units
  put-big-bytes h high low u d s t =
      let e : at + 4 ≡ at + 2 + 2 = omega arith in
      rw (units-big p [] h, ← u, ← d, e) (stored-append s t)

-- the point that a unit ends stored at index at
module _ (buffer : List ℕ) (at before u : ℕ) where
  pub put-none : is_high u ≡ true → Stored buffer at (point_of before u []) buffer at
  put-none h = rw (point-high before u [] h) (stored-none _ _)

  pub put-pair : is_low u ≡ true → Stored buffer at (point_of before u []) (set buffer at (pair_of before u)) (at + 1)
  put-pair l = rw (point-low before u [] l) (stored_one _ _ _)

  pub put-plain : is_high u ≡ false → is_low u ≡ false → Stored buffer at (point_of before u []) (set buffer at u) (at + 1)
  put-plain h l = rw (point-plain before u [] h l) (stored_one _ _ _)

-- the units of a point, and the point that a unit ends, before the rest
units-before : (p : ℕ) (rest : List ℕ) → units_of p rest ≡ units_of p [] ++ rest
unfolding units_of
units-before p rest = cases (ltb p 0x10000) (λ e. rw e) (λ e. rw e)

point-before : (before u : ℕ) (rest : List ℕ) → point_of before u rest ≡ point_of before u [] ++ rest
unfolding point_of
point-before before u rest = cases (is_high u) (λ h. rw h) (λ h. cases (is_low u) (λ l. rw (h, l)) (λ l. rw (h, l)))

-- a row itself, each element a piece
pub row-pieces : (xs : List ℕ) → Pieces (length xs) 1 (λ i. get_or xs i 0 ∷ []) (λ i. drop i xs)
row-pieces xs = each-pieces (λ l. l) (λ x. x ∷ []) 1 refl (λ x l. refl) (λ x. omega arith) xs

-- the units of a row of points
pub units-pieces : (ps : List ℕ) → Pieces (length ps) 2 (λ i. units_of (get_or ps i 0) []) (λ i. to_units (drop i ps))
unfolding to_units
units-pieces ps = each-pieces to_units (λ p. units_of p []) 2 refl (λ p l. units-before p (to_units l)) (λ p. length-units_of p []) ps

-- the bytes of a row of units
pub bytes-pieces : (us : List ℕ) → Pieces (length us) 2 (λ i. bytes_of_units (get_or us i 0 ∷ [])) (λ i. bytes_of_units (drop i us))
unfolding bytes_of_units
bytes-pieces us = each-pieces bytes_of_units (λ u. bytes_of_units (u ∷ [])) 2 refl (λ u l. refl) (λ u. omega arith) us

-- the bytes of a row of points
pub text-pieces : (ps : List ℕ) → Pieces (length ps) 4 (λ i. bytes_of_units (units_of (get_or ps i 0) [])) (λ i. bytes_of (drop i ps))
unfolding bytes_of to_units bytes_of_units
text-pieces ps =
    each-pieces bytes_of (λ p. bytes_of_units (units_of p [])) 4 refl
    (λ p l. ap bytes_of_units (units-before p (to_units l)) ∙ bytes_of_units-append (units_of p []) (to_units l))
    (λ p. omega (arith, length-bytes_of_units (units_of p []), length-units_of p [])) ps

-- the points of a row of units, from index i on
unfoldable pub points_from : List ℕ → ℕ → List ℕ
points_from us i = points_after (get_or (0 ∷ us) i 0) (drop i us)

pub points-pieces : (us : List ℕ) → Pieces (length us) 1 (λ i. point_of (get_or (0 ∷ us) i 0) (get_or us i 0) []) (points_from us)
unfolding points_after points_from
points-pieces us = record {
  more = λ i h. rw (add-one, drop-cons us i 0 h) (point-before (get_or (0 ∷ us) i 0) (get_or us i 0) (points_after (get_or us i 0) (drop (suc i) us)));
  none = rw (drop_of_length-le us {i = length us} (omega arith));
  few = λ i. length-point_of (get_or (0 ∷ us) i 0) (get_or us i 0) [];
}

-- the points of the units before index i are stored, and before is the last of these units
pub record Pointing (us old now : List ℕ) (before at i : ℕ) : Type 0 where
  pub putting : Putting (length us) 1 (points_from us) old now at i
  pub last : before ≡ get_or (0 ∷ us) i 0

module _ (us old : List ℕ) where
  pub pointing-none : Pointing us old old 0 0 0
  pointing-none = record { putting = putting-none (points-pieces us) old; last = refl }

  module _ (now : List ℕ) (before at i : ℕ) (s : Pointing us old now before at i) where
    pub pointing-more : i < length us → (unit : ℕ) → unit ≡ get_or us i 0
        → {more : List ℕ} {next : ℕ} → Stored now at (point_of before unit []) more next → Pointing us old more unit next (i + 1)
    pointing-more h unit u t = record {
      putting = putting-more (points-pieces us) s.putting h (rw (s.last, u) at t);
      last = rw (u, add-one);
    }

    pub pointing-all : length us ≤ i → length us ≤ length old → (at ≡ length (to_points us)) × (now ≡ to_points us ++ drop (length (to_points us)) old)
    unfolding to_points points_from
    pointing-all h room = putting-all (points-pieces us) s.putting h (omega arith)
