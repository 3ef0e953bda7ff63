-- BRACE as a codec of points: the same facts, by way of the units.
use Prim.Native.Nat.{ℕ, ◌+◌, ◌-◌, ◌/◌, ◌%◌, ◌≤◌, ◌<◌}
use mathlib.Core.Path.{◌≡◌, refl, sym, ap, ap₂, ◌∙◌}
use mathlib.Core.Bool.{true, not}
use mathlib.Core.Logic.{◌↔◌, inl, inr}
use mathlib.Core.List.{List, [], ◌∷◌, map}
use lib.ListN.{length}
use borrow.Author.Tests.{ltb-false, eqb-false, lt-ltb, le-ltb, ne_eqb}
use native.Mathlib.Omega.{arith}
use Rattle.basis.specs.Tests.{every, first_below}
use Rattle.basis.specs.Rows.{at, AllBelow}
use Rattle.basis.specs.Outcome.{Outcome, done, refused, refused_if, and_then}
use Rattle.basis.specs.Causes.{Cause, whole, placed, Absent, Settles}
use Rattle.basis.specs.Codec.{Writable, Readable}
use Rattle.basis.proofs.Tests.{by-lt, ltb_iff, eqb-iff, both_left, both_right, both_true, true-not-false, none-iff, first-before, first-le}
use Rattle.basis.proofs.Outcome.{done-not-refused}
use Rattle.basis.proofs.Causes.{settle-whole, settle-first, settle-without, absent-first}
use Rattle.basis.proofs.Codec.{Faithful}
use Rattle.ascii.specs.Case.{small, SameButCase}
use Rattle.ascii.proofs.Case.{small-inside, small-below, small-above, same-but-case}
use Rattle.ascii.proofs.Codec.{ReadAlike}
use Rattle.utf16.specs.Points.{is_point, is_text, first_not_point}
use Rattle.utf16.specs.Units.{to_units, to_points, units_of, first_unpaired, unpaired_at}
use Rattle.utf16.specs.Causes.{UnpairedAt}
use Rattle.utf16.proofs.Surrogates.{under-point, units_small, units-big, text_at}
use Rattle.utf16.proofs.RoundTrip.{points-back, text-paired, text-units, units-back, units-text, some-to_units, length-to_units}
use Rattle.utf16.specs.Answer.{refused_unpaired}
use Rattle.utf16.proofs.Refusals.{points-text, text-iff}
use Rattle.labels.specs.Tests.{text_tests}
use Rattle.labels.specs.Causes.{Empty}
use Rattle.labels.proofs.Causes.{TextAndLabel, some-iff}
use Rattle.alphabet.specs.Alphabet.{brace}
use Rattle.copying.specs.Symbols.{capital}
use Rattle.copying.proofs.Same.{same-label, bytes-spell}
use Rattle.brace_symbols.specs.Encoding as encoding
use Rattle.brace_text.specs.Decoding as decoding
use Rattle.brace.specs.Answer as answer
use Rattle.brace.specs.Points.{label_of, text_of, encode_outcome, decode_outcome}
use Rattle.brace_facts.specs.Causes.{points_causes}
use Rattle.brace_facts.specs.Codec.{codec, points_codec}
use Rattle.brace_facts.proofs.Alphabet.{brace-written}
use Rattle.brace_facts.proofs.Settled.{encode-settled, decode-settled}
use Rattle.brace_facts.proofs.Faithful.{brace-faithful, brace-alike}

-- the same causes settle an outcome that counts something else
settle-counted : {causes : List Cause} {count : ℕ} (n : ℕ) (o : Outcome) → Settles causes count o → Settles causes n (and_then (λ p. p) o (done n))
unfolding and_then
settle-counted n (done m) s = record {
  refuses = λ number position. (λ e. absurd (done-not-refused refl e), λ f. absurd (done-not-refused refl ((s.refuses number position).1 f)));
  succeeds = λ k. (λ e. (((s.succeeds m).0 refl).0, cc), λ q. let e = q.1 in cc);
}
settle-counted {causes} {count} n (refused number position) s = record {
  refuses = s.refuses;
  succeeds = λ k. (λ e. absurd (done-not-refused e refl), λ q. absurd (done-not-refused ((s.succeeds count).1 (q.0, refl)) refl));
}

-- no surrogate of a row is unpaired if the search for one goes to its end
all-paired : (us : List ℕ) → first_unpaired us ≡ length us → Absent (placed 10 (UnpairedAt us))
unfolding first_unpaired
all-paired us e i f = true-not-false f.here (first-before (length us) (unpaired_at 0 us) i (rw e f.inside))

paired-all : (us : List ℕ) → Absent (placed 10 (UnpairedAt us)) → first_unpaired us ≡ length us
unfolding first_unpaired
paired-all us absent = absent-first (length us) (unpaired_at 0 us) absent

-- points that may be written are those of units that may be written, and conversely
module _ (t : List ℕ) where
  units-some : (length t ≡ 0 → ⊥) → Absent (whole 2 (Empty (to_units t)))
  units-some some p h = some (omega (arith, some-to_units t, h.1))

  units-writable : Writable points_codec t → Writable codec (to_units t)
  units-writable w = (units-some (λ e. w.0 0 (refl, e)), (all-paired (to_units t) (text-paired t (points-text t w.1.0)), w.1.1))

points-writable : (us : List ℕ) → AllBelow 65536 us → Writable codec us → Writable points_codec (to_points us)
points-writable us b w =
    let paired = paired-all us w.1.0 in
    let is = units-back us b paired in
    let text = units-text us b paired in (
      λ p h. w.0 0 (refl, omega (arith, length-to_units (to_points us), ap length is, h.1)),
      (λ i f. true-not-false f.here (ap not (text_at (to_points us) i text f.inside)), rw is w.1.1),
    )

-- what may be written has one point or more, is a text, and has a label of at most 63 bytes; and it has
-- at most 63 points
module _ (t : List ℕ) (w : Writable points_codec t) where
  pub points-written : TextAndLabel t (label_of t)
  unfolding label_of
  points-written = record {
    some = (some-iff t).0 w.0;
    text = points-text t w.1.0;
    short = by-lt 63 (length (encoding.label_of (to_units t))) (λ h. absurd (w.1.1.1.0 0 (refl, inr h))) (λ h. h);
  }

  pub points-few : length t ≤ 63
  points-few = by-lt 63 (length t) (λ h. absurd (w.1.1.1.0 0 (refl, inl (omega (arith, some-to_units t, h))))) (λ h. h)

-- encoding: 1, 2 and 4 of the points, then 5 and 3 of their units
encode-points : (capacity : ℕ) (t : List ℕ) → Settles (whole 1 (capacity < 63) ∷ points_causes t) (length (label_of t)) (encode_outcome capacity t)
unfolding encode_outcome label_of text_tests first_not_point is_text
encode-points capacity t =
    settle-whole _ 1 (ltb_iff capacity 63)
    (λ room. settle-whole _ 2 (eqb-iff (length t) 0)
    (λ some. settle-first (length t) (λ k. not (is_point (at t k))) 4
    (λ points.
    settle-without (placed 10 (UnpairedAt (to_units t))) (all-paired (to_units t) (text-paired t (searched points)))
    (settle-without (whole 2 (Empty (to_units t))) (units-some t (eqb-false _ _ some))
    (settle-without (whole 1 (capacity < 63)) (λ p h. omega (arith, ltb-false capacity 63 room, h.1)) (encode-settled capacity (to_units t)))))))
  where
    searched : first_below (length t) (λ k. not (is_point (at t k))) ≡ length t → is_text t ≡ true
    searched e = (none-iff (length t) (λ k. is_point (at t k))).0 e

-- what is read from a label that may be read
module _ (l : List ℕ) (r : Readable codec l) where
  read-units : to_units (to_points (decoding.text_of l)) ≡ decoding.text_of l
  read-units = units-back (decoding.text_of l) (brace-faithful.respelled l r).0 (paired-all _ (brace-faithful.writable l r).1.0)

  read-text : is_text (to_points (decoding.text_of l)) ≡ true
  read-text = units-text (decoding.text_of l) (brace-faithful.respelled l r).0 (paired-all _ (brace-faithful.writable l r).1.0)

pub points-faithful : Faithful points_codec
unfolding label_of text_of decode_outcome
points-faithful = record {
  encoding = encode-points;
  decoding = λ capacity l. settle-counted (length (text_of l)) (answer.decode_outcome capacity l) (decode-settled l capacity);
  writable = λ l r. points-writable (decoding.text_of l) (brace-faithful.respelled l r).0 (brace-faithful.writable l r);
  respelled = λ l r. rw (read-units l r) (brace-faithful.respelled l r).1;
  readable = λ t l w s. brace-faithful.readable (to_units t) l (units-writable t w) (text-units t (points-text t w.1.0), s);
  text-is = λ t l w s.
      let text = points-text t w.1.0 in
      ap to_points (brace-faithful.text-is (to_units t) l (units-writable t w) (text-units t text, s)) ∙ points-back t text;
}

-- small forms: of a point, of a text, and of its units
small-under : (p : ℕ) → p ≤ 90 → small p < 0xd800
small-under p h = by-lt p 65 (λ g. rw (small-below p g) (omega arith)) (λ g. rw (small-inside p g h) (omega arith))

point-small : (p : ℕ) → is_point p ≡ true → is_point (small p) ≡ true
point-small p e = by-lt 90 p (λ g. rw (small-above p g) e) (λ g. under-point (small p) (small-under p g))

text-folded : (t : List ℕ) → is_text t ≡ true → is_text (map small t) ≡ true
unfolding is_text every
text-folded [] e = refl
text-folded (p ∷ t) e = both_true (point-small p (both_left (is_point p) _ e)) (text-folded t (both_right (is_point p) _ e))

unit-small : (p : ℕ) (rest : List ℕ) → units_of (small p) (map small rest) ≡ map small (units_of p rest)
unit-small p rest =
    by-lt p 0x10000
    (λ h. rw (units_small p rest h) (units_small (small p) (map small rest) (by-lt 90 p (λ g. rw (small-above p g) h) (λ g. omega (arith, small-under p g)))))
    (λ h.
    let high = small-above (0xd800 + (p - 0x10000) / 1024) (omega arith) in
    let low = small-above (0xdc00 + (p - 0x10000) % 1024) (omega arith) in
    rw (small-above p (omega arith), units-big p rest h) (units-big p (map small rest) h ∙ ap₂ (λ (x y : ℕ). x ∷ y ∷ map small rest) (sym high) (sym low)))

to-units-small : (t : List ℕ) → to_units (map small t) ≡ map small (to_units t)
unfolding to_units
to-units-small [] = refl
to-units-small (p ∷ t) = ap (units_of (small p)) (to-units-small t) ∙ unit-small p (to_units t)

-- texts differ at most in case exactly if their units do
same_units : (t u : List ℕ) → is_text t ≡ true → is_text u ≡ true → SameButCase t u ↔ SameButCase (to_units t) (to_units u)
same_units t u a b = (
  λ e. (same-but-case _ _).1 (sym (to-units-small t) ∙ ap to_units ((same-but-case t u).0 e) ∙ to-units-small u),
  λ e. (same-but-case t u).1 (sym (folded t a) ∙ ap to_points ((same-but-case _ _).0 e) ∙ folded u b),
)
  where
    folded : (t : List ℕ) → is_text t ≡ true → to_points (map small (to_units t)) ≡ map small t
    folded t e = ap to_points (sym (to-units-small t)) ∙ points-back (map small t) (text-folded t e)

pub points-alike : ReadAlike points_codec
unfolding text_of
points-alike l k r q =
    let i = same_units _ _ (read-text l r) (read-text k q) in
    let j = rw (← (read-units l r), ← (read-units k q)) at (brace-alike l k r q) in
    (λ e. j.0 (i.0 e), λ e. i.1 (j.1 e))

-- the label that is written counts as the text's label
pub points-own : (t : List ℕ) → points_codec.SameLabel t (label_of t)
unfolding label_of encoding.label_of
points-own t =
    let us = encoding.symbols_of (to_units t) in
    (same-label brace capital brace-written us _).0 (bytes-spell brace capital brace-written us)

unpaired-le : (us : List ℕ) → first_unpaired us ≤ length us
unfolding first_unpaired
unpaired-le us = first-le (length us) (unpaired_at 0 us)

-- units that become points on the way to BRACE say the same as units that go there straight
pub units-straight : (capacity : ℕ) (us : List ℕ) → AllBelow 65536 us → 63 ≤ capacity → (length us ≡ 0 → ⊥)
    → refused_unpaired us (encode_outcome capacity (to_points us)) ≡ answer.encode_outcome capacity us
unfolding refused_unpaired encode_outcome text_tests answer.encode_outcome refused_if
units-straight capacity us b room some =
    by-lt (first_unpaired us) (length us)
    (λ h. rw (lt-ltb (first_unpaired us) (length us) h, le-ltb capacity 63 room, ne_eqb (length us) 0 some))
    (λ h.
    let paired : first_unpaired us ≡ length us = omega (arith, h, unpaired-le us) in
    let is = units-back us b paired in
    let points : length (to_points us) ≡ 0 → ⊥ = λ e. some (omega (arith, e, length-to_units (to_points us), ap length is)) in
    let text = le-ltb (first_not_point (to_points us)) (length (to_points us)) (omega (arith, (text-iff (to_points us)).1 (units-text us b paired))) in
    rw (is, le-ltb (first_unpaired us) (length us) h, le-ltb capacity 63 room, ne_eqb (length (to_points us)) 0 points, text))

pub label-straight : (capacity n : ℕ) (us : List ℕ) → AllBelow 65536 us → answer.encode_outcome capacity us ≡ done n → label_of (to_points us) ≡ encoding.label_of us
unfolding label_of
label-straight capacity n us b e = ap encoding.label_of (units-back us b (paired-all us (((brace-faithful.encoding capacity us).succeeds n).0 e).0.1.1.0))

-- and so it is with what is read
module _ (capacity n : ℕ) (l : List ℕ) (e : answer.decode_outcome capacity l ≡ done n) where
  pub text-straight : to_units (text_of l) ≡ decoding.text_of l
  unfolding text_of
  text-straight = read-units l (((brace-faithful.decoding capacity l).succeeds n).0 e).0.1
