-- What writing a label needs: the turns of the loops, the octets and the label put together, and the units of a text.
use Prim.Native.Nat.{ℕ, suc, ◌+◌, ◌-◌, ◌*◌, ◌/◌, ◌%◌, ◌≤◌, ◌<◌}
use mathlib.Core.Path.{◌≡◌, refl, sym, ap, ◌∙◌}
use mathlib.Core.Bool.{true, false, not}
use mathlib.Core.List.{List, [], ◌∷◌, ◌++◌}
use lib.Dec.{eqb, ltb}
use lib.ListN.{length, take, drop, set, length-drop, drop_of_length-le}
use lib.Seq.{take-length, drop-cons}
use borrow.Author.Tests.{eq-eqb, le-leb, lt-leb, lt-ltb, le-ltb}
use native.Mathlib.Numerals.{add-one}
use native.Mathlib.Omega.{arith}
use Rattle.std.proofs.Common.{Option, None, Some}
use Rattle.basis.specs.Tests.{first_below, first_in}
use Rattle.basis.specs.Rows.{at}
use Rattle.basis.specs.Outcome.{Outcome, done, refused, refused_if, count_of, buffer_after}
use Rattle.basis.proofs.Tests.{cases, first-le}
use Rattle.basis.proofs.Lists.{sets-front}
use Rattle.basis.proofs.Stores.{Storing, Stored, stored_one, stored-append, storing-piece, storing-none}
use Rattle.basis.proofs.Parts.{rest-is, rest-filled, front-is}
use Rattle.basis.proofs.Outcome.{pass_below, refused-leaves, done-leaves}
use Rattle.utf16.specs.Units.{to_units}
use Rattle.utf16.specs.Answer.{units_to_bytes_outcome}
use Rattle.utf16.proofs.RoundTrip.{some-to_units}
use Rattle.utf16.specs.Bytes.{bytes_of_units}
use Rattle.utf16.proofs.BytePairs.{length-bytes_of_units}
use Rattle.utf16.proofs.Refusals.{bytes-done}
use Rattle.alphabet.specs.Alphabet.{lace}
use Rattle.base32.specs.Base32.{quintet_count, characters_of}
use Rattle.base32.specs.Answer as base32
use Rattle.base32.proofs.Values.{length-characters_of}
use Rattle.lace_format.specs.Prefix.{prefix}
use Rattle.lace_format.specs.Octets.{run_count}
use Rattle.lace_encoding.specs.Encoding.{octets_of, label_of}
use Rattle.lace_encoding.specs.Internal.{same_high, continues, run_step, run_steps, units_outcome}
use Rattle.lace_encoding.proofs.Runs.{runs-count, runs-steps, units-few}

-- the units of one high octet end at the first of another
pub high-first : (high : ℕ) (us : List ℕ) → first_in (λ u. not (eqb (u / 256) high)) us ≡ same_high high us
unfolding same_high first_below
high-first high [] = refl
high-first high (u ∷ us) = cases (eqb (u / 256) high) (λ e. rw e (ap suc (high-first high us))) (λ e. rw e)

pub high-few : (high : ℕ) (us : List ℕ) → same_high high us ≤ length us
high-few high us = omega (arith, high-first high us, first-le (length us) (λ i. not (eqb (at us i / 256) high)))

-- the octets that the unit at index i adds, stored from index k on, and the index after them
module _ (us : List ℕ) (i : ℕ) (before : Option ℕ) (inside : i < length us) (octets : List ℕ) (k : ℕ) where
  abbrev step : List ℕ
  step = run_step before (drop i us)

  pub put_low : continues before (at us i / 256) ≡ true → Stored octets k step (set octets k (at us i % 256)) (k + 1)
  unfolding run_step
  put_low e = rw (drop-cons us i 0, e) (stored_one _ _ _)

  pub put-start : continues before (at us i / 256) ≡ false → (n : ℕ) → n ≡ same_high (at us i / 256) (drop i us)
      → Stored octets k step (set (set (set octets k n) (k + 1) (at us i / 256)) (k + 2) (at us i % 256)) (k + 3)
  unfolding run_step same_high
  put-start q n e =
      let d : n ≡ suc (same_high (at us i / 256) (drop (suc i) us)) = e ∙ rw (drop-cons us i 0, eq-eqb (at us i / 256) (at us i / 256) refl) in
      let j : k + 2 ≡ k + 1 + 1 = omega arith in
      let l : k + 3 ≡ k + 1 + 1 + 1 = omega arith in
      rw (drop-cons us i 0, q, ← d, j, l) (stored-append (stored-append (stored_one _ _ _) (stored_one _ _ _)) (stored_one _ _ _))

  pub step-few : length step ≤ 3
  unfolding run_step
  step-few = rw (drop-cons us i 0) (cases (continues before (at us i / 256)) (λ e. rw e (omega arith)) (λ e. rw e (omega arith)))

-- the octets of the runs from index i on: those of one unit are stored, or none are left
module _ (old us now : List ℕ) (before : Option ℕ) (k i : ℕ) (s : Storing old (run_steps None us) now k (run_steps before (drop i us))) where
  pub runs-turn : i < length us → {more : List ℕ} {next : ℕ} → Stored now k (run_step before (drop i us)) more next
      → Storing old (run_steps None us) more next (run_steps (Some (at us i / 256)) (drop (i + 1) us))
  unfolding run_steps
  runs-turn h t = storing-piece s (rw (drop-cons us i 0, add-one)) t

  pub runs-end : length us ≤ i → k ≤ length old → (k ≡ length (run_steps None us)) × (now ≡ run_steps None us ++ drop (length (run_steps None us)) old)
  unfolding run_steps
  runs-end h l =
      let e : run_steps before (drop i us) ≡ [] = rw (drop_of_length-le us h) in
      storing-none _ _ _ _ _ s e (omega (arith, s.count, ap length e))

-- FF is stored first, and the rest is passed to the writer of bytes
module _ (us old : List ℕ) (fits : 2 * length us + 1 ≤ length old) where
  abbrev behind_ff : List ℕ
  behind_ff = take (length (set old 0 255) - 1) (drop 1 (set old 0 255))

  begun : set old 0 255 ≡ (255 ∷ []) ++ drop 1 old
  begun = sets-front (255 ∷ []) old (omega arith)

  all_done : units_to_bytes_outcome us (length us) (length behind_ff) ≡ done (2 * length us)
  all_done =
      let passed = rest-is 1 (255 ∷ []) (drop 1 old) (set old 0 255) refl begun in
      bytes-done us (length us) (length behind_ff) (omega arith) (omega (arith, ap length passed, length-drop 1 old)) (2 * length us) (rw take-length (sym (length-bytes_of_units us)))

  pub all-counted : (answer : Outcome) (n : ℕ) → answer ≡ units_to_bytes_outcome us (length us) (length behind_ff) → n ≡ count_of answer → n ≡ 2 * length us
  unfolding count_of
  all-counted answer n a e = e ∙ ap count_of (a ∙ all_done)

  pub all-stored : (part : List ℕ) → part ≡ buffer_after (units_to_bytes_outcome us (length us) (length behind_ff)) (bytes_of_units (take (length us) us)) behind_ff
      → take 1 (set old 0 255) ++ (part ++ drop (length (set old 0 255) - 1) (drop 1 (set old 0 255))) ≡ (0xff ∷ bytes_of_units us) ++ drop (2 * length us + 1) old
  unfolding buffer_after
  all-stored part e =
      let k : 1 + 2 * length us ≡ 2 * length us + 1 = omega arith in
      rest-filled 1 (2 * length us) (255 ∷ []) (bytes_of_units us) old (set old 0 255) refl begun part (e ∙ rw (all_done, take-length))
      ∙ ap (λ (n : ℕ). (0xff ∷ bytes_of_units us) ++ drop n old) k

-- the octets of units are those of their runs, or FF and all units
module _ (us : List ℕ) (r : ℕ) (count : r ≡ run_count us) (n : ℕ) (now old : List ℕ) where
  abbrev Put : List ℕ → Type 0
  Put values = (n ≡ length values) × (now ≡ values ++ drop (length values) old)

  pub octets-runs : 2 * r + length us ≤ 2 * length us → Put (run_steps None us) → Put (octets_of us)
  unfolding octets_of
  octets-runs h p =
      let e : run_steps None us ≡ octets_of us = runs-steps us ∙ rw (runs-count, ← count, le-leb (2 * r + length us) (2 * length us) h) in
      rw (← e) p

  pub octets-all : 2 * length us < 2 * r + length us → n ≡ 2 * length us + 1 → now ≡ (0xff ∷ bytes_of_units us) ++ drop (2 * length us + 1) old → Put (octets_of us)
  unfolding octets_of
  octets-all h p q =
      let e : 0xff ∷ bytes_of_units us ≡ octets_of us = rw (runs-count, ← count, lt-leb (2 * r + length us) (2 * length us) h) in
      let l : 2 * length us + 1 ≡ length (0xff ∷ bytes_of_units us) = omega (arith, length-bytes_of_units us) in
      rw (← e) (p ∙ l, q ∙ ap (λ (k : ℕ). (0xff ∷ bytes_of_units us) ++ drop k old) l)

-- the label put together: now is the label after the prefix was stored, whose rest is passed to the Base32 writer
module _ (octets label now : List ℕ) (fits : 4 + quintet_count (length octets) ≤ length label) (begun : now ≡ prefix ++ drop 4 label) where
  abbrev passed : List ℕ
  passed = take (length now - 4) (drop 4 now)

  label-done : base32.encode_outcome octets (length passed) ≡ done (quintet_count (length octets))
  unfolding base32.encode_outcome
  label-done =
      let is = rest-is 4 prefix (drop 4 label) now refl begun in
      pass_below 1 0 _ (length passed) (quintet_count (length octets)) (omega (arith, ap length is, length-drop 4 label))

  pub label-counted : (answer : Outcome) (n : ℕ) → answer ≡ base32.encode_outcome octets (length passed) → n ≡ count_of answer → n ≡ quintet_count (length octets)
  unfolding count_of
  label-counted answer n a e = e ∙ ap count_of (a ∙ label-done)

  pub label-stored : (part : List ℕ) → part ≡ buffer_after (base32.encode_outcome octets (length passed)) (characters_of lace octets) passed
      → take 4 now ++ (part ++ drop (length now - 4) (drop 4 now)) ≡ (prefix ++ characters_of lace octets) ++ drop (4 + quintet_count (length octets)) label
  unfolding buffer_after
  label-stored part e = rest-filled 4 (quintet_count (length octets)) prefix (characters_of lace octets) label now refl begun part (e ∙ rw label-done)

-- the length of a label, by its octets
pub length_label : (t : List ℕ) → length (label_of t) ≡ 4 + quintet_count (length (octets_of (to_units t)))
unfolding label_of
length_label t = omega (arith, length-characters_of lace (octets_of (to_units t)))

-- 36 octets or fewer make a label of at most 63 bytes, more make a longer one
octets-long : (us : List ℕ) → 36 < length (octets_of us) → units_outcome us ≡ refused 3 0
unfolding units_outcome refused_if
octets-long us h = rw (lt-ltb 63 (4 + quintet_count (length (octets_of us))) (omega arith))

octets-short : (us : List ℕ) → length (octets_of us) ≤ 36 → units_outcome us ≡ done (4 + quintet_count (length (octets_of us)))
unfolding units_outcome refused_if
octets-short us h = rw (le-ltb 63 (4 + quintet_count (length (octets_of us))) (omega arith))

-- the octets of units are first in their buffer
pub octets-are : (us : List ℕ) (n : ℕ) → n ≡ length (octets_of us) → (now old : List ℕ) → now ≡ octets_of us ++ drop (length (octets_of us)) old → take n now ≡ octets_of us
octets-are us n count now old left = front-is n (octets_of us) _ now count left

-- the returns of `encode_units`: the answer and the buffer
module _ (us label : List ℕ) where
  abbrev UnitsAnswered : Outcome → List ℕ → Type 0
  UnitsAnswered answer now =
      (answer ≡ units_outcome us) × (now ≡ buffer_after (units_outcome us) (prefix ++ characters_of lace (octets_of us)) label)

  pub units-many : 1 ≤ length us → 34 < length us → UnitsAnswered (refused 3 0) label
  units-many some h = refused-leaves _ _ label 3 0 (octets-long us (omega (arith, units-few us some)))

  module _ (n : ℕ) (count : n ≡ length (octets_of us)) where
    pub octets-many : 36 < n → UnitsAnswered (refused 3 0) label
    octets-many h = refused-leaves _ _ label 3 0 (octets-long us (omega arith))

    pub units-done : n ≤ 36 → (os : List ℕ) → os ≡ octets_of us → (answer : Outcome) (now : List ℕ) → answer ≡ done (4 + quintet_count (length os))
        → now ≡ (prefix ++ characters_of lace os) ++ drop (4 + quintet_count (length os)) label → UnitsAnswered answer now
    units-done h os e answer now a b =
        let c = 4 + quintet_count (length (octets_of us)) in
        let r = done-leaves (units_outcome us) (prefix ++ characters_of lace (octets_of us)) label now c (octets-short us (omega arith)) (rw e at b) in
        (rw e at a ∙ r.0, r.1)

-- what is left of the tests on a text is what is answered for its units
pub by_units : (t us : List ℕ) → us ≡ to_units t → refused_if (ltb 63 (length (label_of t))) 3 0 (done (length (label_of t))) ≡ units_outcome us
unfolding units_outcome
by_units t us e = rw (e, length_label t)

pub label_is : (t us : List ℕ) → us ≡ to_units t → label_of t ≡ prefix ++ characters_of lace (octets_of us)
unfolding label_of
label_is t us e = rw e

-- the label of more than 34 points is too long
pub text-long : (t : List ℕ) → 34 < length t → 63 < length (label_of t)
text-long t h = omega (arith, some-to_units t, units-few (to_units t) (omega (arith, some-to_units t)), length_label t)
