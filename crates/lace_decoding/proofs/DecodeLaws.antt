-- Reading a label: the prefix, the loops over octets, what the octets stand for, and what each return answers.
use Prim.Native.Nat.{ℕ, suc, ◌+◌, ◌-◌, ◌*◌, ◌%◌, ◌<◌, ◌≤◌}
use mathlib.Core.Path.{◌≡◌, refl, sym, ap, ◌∙◌}
use mathlib.Core.Bool.{Bool, true, false, not}
use mathlib.Core.List.{List, [], ◌∷◌, ◌++◌}
use native.Mathlib.Numerals.{add-one}
use native.Mathlib.Omega.{arith}
use lib.Dec.{eqb, ltb, leb}
use lib.ListN.{length, take, drop, length-drop, drop_of_length-le}
use lib.Seq.{drop-cons}
use borrow.Author.Tests.{le-ltb, eq-eqb, ne_eqb, eqb-true, eqb-false, not-true, not-false}
use Rattle.std.proofs.Common.{None, Result, Ok, Err}
use Rattle.basis.specs.Tests.{both}
use Rattle.basis.specs.Rows.{at}
use Rattle.basis.specs.Outcome.{Outcome, done, refused, refused_if, number_of, outcome_by, bytes_outcome, buffer_after}
use Rattle.basis.specs.declared.ErrorCode.{ErrorCode}
use Rattle.basis.specs.declared.ErrorCode.TheVariants.{OutsideAlphabet}
use Rattle.basis.specs.declared.ByteCount.{ByteCount}
use Rattle.basis.specs.declared.Refusal.{Refusal}
use Rattle.basis.proofs.Tests.{cases, first-le}
use Rattle.basis.proofs.Stores.{Storing, Stored, storing-piece, storing-none}
use Rattle.basis.proofs.Parts.{part-is, front-is, front_fits}
use Rattle.basis.proofs.Outcome.{pass-given, handed-leaves, number-tells}
use Rattle.ascii.specs.Prefix.{has_prefix, after_prefix}
use Rattle.ascii.specs.Ldh.{is_host_label}
use Rattle.ascii.proofs.Prefix.{prefix-long}
use Rattle.utf16.specs.Units.{to_points, unpaired_at, first_unpaired}
use Rattle.utf16.specs.Answer.{to_points_outcome}
use Rattle.utf16.proofs.Refusals.{all_done}
use Rattle.labels.proofs.FirstTests.{LabelPassed, label-passes}
use Rattle.utf16.specs.Bytes.{units_of_bytes}
use Rattle.utf16.proofs.BytePairs.{length-units_of_bytes}
use Rattle.alphabet.specs.Alphabet.{lace, values_of}
use Rattle.base32.specs.Form.{octet_count, is_lawful}
use Rattle.base32.specs.Base32.{to_octets}
use Rattle.base32.specs.Answer.{first_outside}
use Rattle.base32.specs.Answer as base32
use Rattle.base32.proofs.Regroup.{length-to_octets}
use Rattle.base32.proofs.Values.{length-values}
use Rattle.base32.proofs.Outcomes.{decode-settled, decode-position}
use Rattle.lace_format.specs.Prefix.{prefix}
use Rattle.lace_format.specs.Octets.{run_count}
use Rattle.lace_decoding.specs.Decoding.{may_stand, place_after, may_end, unit_at, are_runs, units_from, units_of, stand_for_units, label_octets, label_units, is_readable, text_of}
use Rattle.lace_decoding.specs.Answer.{decode_outcome}
use Rattle.lace_decoding.specs.Internal.{octets_outcome, error_after_prefix}
use Rattle.lace_decoding.specs.declared.decoding.Place.{Place}
use Rattle.lace_decoding.specs.declared.decoding.Place.TheVariants.{Count, High, Low}

-- a label that has the prefix is that long
pub prefix-fits : (l : List ℕ) (has : Bool) → has ≡ has_prefix prefix l → not has ≡ false → 4 ≤ length l
prefix-fits l has e n = prefix-long prefix l (sym e ∙ not-false has n)

-- the loop that tests runs: what is left are runs exactly when all are

module _ (os : List ℕ) (place : Place) (i : ℕ) (left : are_runs (Count None) os ≡ are_runs place (drop i os)) where
  pub runs-end : length os ≤ i → (may : Bool) → may ≡ may_end place → may ≡ are_runs (Count None) os
  unfolding are_runs
  runs-end h may e = e ∙ sym (left ∙ ap (are_runs place) (drop_of_length-le os h))

  module _ (h : i < length os) (may : Bool) (e : may ≡ may_stand place (at os i)) where
    here : are_runs (Count None) os ≡ both may (are_runs (place_after place (at os i)) (drop (i + 1) os))
    unfolding are_runs
    here = left ∙ rw (drop-cons os i 0, add-one, e)

    pub runs-stop : not may ≡ true → false ≡ are_runs (Count None) os
    unfolding both
    runs-stop n = sym (here ∙ rw (not-true may n))

    pub runs-turn : not may ≡ false → (next : Place) → next ≡ place_after place (at os i) → are_runs (Count None) os ≡ are_runs next (drop (i + 1) os)
    unfolding both
    runs-turn n next q = here ∙ rw (not-false may n, q)

-- one place and one octet: the unit before the rest, and one at most

unit-before : (place : Place) (x : ℕ) (rest : List ℕ) → unit_at place x rest ≡ unit_at place x [] ++ rest
unfolding unit_at
unit-before (Count previous) x rest = refl
unit-before (High previous count) x rest = refl
unit-before (Low left high) x rest = refl

pub unit-le : (place : Place) (x : ℕ) (rest : List ℕ) → length (unit_at place x rest) ≤ suc (length rest)
unfolding unit_at
unit-le (Count previous) x rest = omega arith
unit-le (High previous count) x rest = omega arith
unit-le (Low left high) x rest = omega arith

-- there are at most as many units as octets

run-units-le : (place : Place) (os : List ℕ) → length (units_from place os) ≤ length os
unfolding units_from
run-units-le place [] = omega arith
run-units-le place (x ∷ os) = omega (arith, unit-le place x (units_from (place_after place x) os), run-units-le (place_after place x) os)

-- the loops that store units: the octets from an index on

module _ (old os now : List ℕ) (place : Place) (k i : ℕ) (s : Storing old (units_from (Count None) os) now k (units_from place (drop i os))) where
  pub run-units-turn : i < length os → {more : List ℕ} {next : ℕ} (then : Place) → Stored now k (unit_at place (at os i) []) more next → then ≡ place_after place (at os i)
      → Storing old (units_from (Count None) os) more next (units_from then (drop (i + 1) os))
  unfolding units_from
  run-units-turn h then t p = storing-piece s (rw (drop-cons os i 0, add-one, p) (unit-before place (at os i) _)) t

  pub run-units-end : length os ≤ i → length os ≤ length old
      → (k ≡ length (units_from (Count None) os)) × (now ≡ units_from (Count None) os ++ drop (length (units_from (Count None) os)) old)
  unfolding units_from
  run-units-end h l = storing-none _ _ _ _ _ s (rw (drop_of_length-le os h)) (omega (arith, run-units-le (Count None) os))

-- the units of octets, and what the octets stand for

-- so many values are at the front of the buffer that was old
abbrev Front : List ℕ → List ℕ → List ℕ → ℕ → Type 0
Front values old now n = (n ≡ length values) × (now ≡ values ++ drop (length values) old)

module _ (os : List ℕ) where
  units-ff : at os 0 ≡ 255 → units_of os ≡ units_of_bytes (drop 1 os)
  unfolding units_of
  units-ff ff = rw (eq-eqb _ _ ff)

  units-runs : (at os 0 ≡ 255 → ⊥) → units_of os ≡ units_from (Count None) os
  unfolding units_of
  units-runs other = rw (ne_eqb _ _ other)

  pub units-le : length (units_of os) ≤ length os
  units-le =
      cases (eqb (at os 0) 255)
      (λ e. rw (units-ff (eqb-true _ _ e)) (omega (arith, length-units_of_bytes (drop 1 os), length-drop 1 os)))
      (λ e. rw (units-runs (eqb-false _ _ e)) (run-units-le (Count None) os))

  pub stored-none : length os ≡ 0 → (old : List ℕ) → Front (units_of os) old old 0
  stored-none e old = let n = units-le in rw (nothing (units_of os) (omega arith)) (refl, refl)
    where
      nothing : (xs : List ℕ) → length xs ≡ 0 → xs ≡ []
      nothing [] e = refl
      nothing (x ∷ xs) e = absurd (omega arith)

  module _ (old now : List ℕ) (n : ℕ) where
    pub stored-ff : at os 0 ≡ 255 → Front (units_of_bytes (take (length os - 1) (drop 1 os))) old now n → Front (units_of os) old now n
    stored-ff ff s = rw (units-ff ff) (rw (part-is 1 os) at s)

    pub stored-runs : (at os 0 ≡ 255 → ⊥) → Front (units_from (Count None) os) old now n → Front (units_of os) old now n
    stored-runs other s = rw (units-runs other) s

-- the units at the front of a row
module _ (os old row : List ℕ) (n : ℕ) (s : Front (units_of os) old row n) where
  pub units-front : take n row ≡ units_of os
  units-front = front-is n (units_of os) (drop (length (units_of os)) old) row s.0 s.1

  pub units-within : n ≤ length row
  units-within = front_fits n (units_of os) (drop (length (units_of os)) old) row s.0 s.1

pub stand-none : (os : List ℕ) → length os ≡ 0 → false ≡ stand_for_units os
unfolding stand_for_units are_runs may_end both
stand-none [] e = refl
stand-none (x ∷ os) e = absurd (omega arith)

-- the octets stand for these units in so many runs
module _ (os us : List ℕ) (units_is : us ≡ units_of os) (r : ℕ) (runs_is : r ≡ run_count us) where
  -- FF is first
  module _ (ff : at os 0 ≡ 255) where
    pub stand-even : (length os % 2 ≡ 1 → ⊥) → false ≡ stand_for_units os
    unfolding stand_for_units both
    stand-even n = rw (eq-eqb _ _ ff, ne_eqb _ _ n)

    pub stand-ff : length os % 2 ≡ 1 → ltb (length us) (2 * r) ≡ stand_for_units os
    unfolding stand_for_units both
    stand-ff e = rw (eq-eqb _ _ ff, eq-eqb _ _ e, runs_is, units_is)

  -- or it does not
  module _ (other : at os 0 ≡ 255 → ⊥) (runs : Bool) (are : runs ≡ are_runs (Count None) os) where
    pub stand-not : not runs ≡ true → false ≡ stand_for_units os
    unfolding stand_for_units both
    stand-not n = rw (ne_eqb _ _ other, ← are, not-true runs n)

    pub stand-runs : not runs ≡ false → leb (2 * r) (length us) ≡ stand_for_units os
    unfolding stand_for_units both
    stand-runs n = rw (ne_eqb _ _ other, ← are, not-false runs n, runs_is, units_is)

-- what is found of the units at the front of a row
module _ (os old row : List ℕ) (n : ℕ) (s : Front (units_of os) old row n) where
  -- by the first unpaired surrogate
  module _ (bad : ℕ) (bad_is : bad ≡ first_unpaired (take n row)) where
    bad-is : bad ≡ first_unpaired (units_of os)
    bad-is = bad_is ∙ ap first_unpaired (units-front os old row n s)

    pub some-unpaired : bad < n → not (eqb (first_unpaired (units_of os)) (length (units_of os))) ≡ true
    some-unpaired h =
        let b = bad-is in
        let k = s.0 in
        ap not (ne_eqb (first_unpaired (units_of os)) (length (units_of os)) (λ q. omega arith))

    pub none-unpaired : n ≤ bad → not (eqb (first_unpaired (units_of os)) (length (units_of os))) ≡ false
    unfolding first_unpaired
    none-unpaired h =
        let b = bad-is in
        let k = s.0 in
        ap not (eq-eqb (first_unpaired (units_of os)) (length (units_of os)) (omega (arith, first-le (length (units_of os)) (unpaired_at 0 (units_of os)))))

    -- the converter is done with units of which none is unpaired
    pub points-done : n ≤ bad → (capacity : ℕ) → (length os ≤ 36) × (63 ≤ capacity) → to_points_outcome row n capacity ≡ done (length (to_points (units_of os)))
    unfolding to_points_outcome
    points-done h capacity room =
        all_done (length row) n n capacity (first_unpaired (take n row)) 10 _ (units-within os old row n s) (omega (arith, s.0, units-le os)) bad bad_is h
        (length (to_points (units_of os))) (rw (units-front os old row n s))

  pub host-label-is : (host : Bool) → host ≡ is_host_label (take n row) → host ≡ is_host_label (units_of os)
  host-label-is host e = e ∙ ap is_host_label (units-front os old row n s)

-- every error of the Base32 reader but that of a byte outside the alphabet
pub other-error : (code : ErrorCode) (position : ℕ) → (code ≡ OutsideAlphabet → ⊥) → refused 9 0 ≡ error_after_prefix (number_of code) position
unfolding error_after_prefix
other-error code position o =
    let t : number_of code ≡ 7 → ⊥ = λ q. o (number-tells code OutsideAlphabet q) in
    sym (rw (ne_eqb (number_of code) 7 t))

-- what follows the prefix, as the Base32 reader sees it
abbrev passed : List ℕ → List ℕ
passed l = take (length l - 4) (drop 4 l)

-- its answer, for a label of at most 63 bytes
module _ (l : List ℕ) (short : length l ≤ 63) (answer : Result ByteCount Refusal) (answer_is : bytes_outcome answer ≡ base32.decode_outcome (passed l) 36) where
  read : base32.decode_outcome (after_prefix prefix l) 36 ≡ bytes_outcome answer
  read = sym (answer_is ∙ ap (λ (cs : List ℕ). base32.decode_outcome cs 36) (part-is 4 l))

  -- a refusal
  module _ (refusal : Refusal) (e : answer ≡ Err refusal) where
    error-is : base32.decode_outcome (after_prefix prefix l) 36 ≡ refused (number_of refusal.code) refusal.position
    unfolding outcome_by
    error-is = read ∙ ap bytes_outcome e

    pub position-small : refusal.position < 64
    position-small = omega (arith, decode-position (after_prefix prefix l) 36 (number_of refusal.code) refusal.position error-is, length-drop 4 l)

  -- octets
  module _ (count : ByteCount) (e : answer ≡ Ok count) where
    count-is : base32.decode_outcome (after_prefix prefix l) 36 ≡ done count.0
    unfolding outcome_by
    count-is = read ∙ ap bytes_outcome e

    count-octets : count.0 ≡ octet_count (length (after_prefix prefix l))
    count-octets = (((decode-settled (after_prefix prefix l) 36).succeeds count.0).0 count-is).1

    pub count_small : count.0 ≤ 36
    count_small = omega (arith, count-octets, length-drop 4 l)

    -- at the front of a row
    module _ (row old : List ℕ) (row_is : row ≡ buffer_after (base32.decode_outcome (passed l) 36) (to_octets (values_of lace (passed l))) old) where
      octets-front : take count.0 row ≡ label_octets l
      unfolding label_octets buffer_after
      octets-front =
          front-is count.0 (label_octets l) (drop count.0 old) row
          (count-octets ∙ sym (length-to_octets (values_of lace (after_prefix prefix l)) ∙ ap octet_count (length-values lace (after_prefix prefix l))))
          (row_is ∙ rw (part-is 4 l, count-is))

-- what follows the prefix: the Base32 reader's outcome decides, and after it the octets'
unfoldable after_reading : Outcome → Outcome → Outcome
after_reading (done n) next = next
after_reading (refused number position) next = error_after_prefix number position

-- the tests after the prefix are those of the Base32 reader, and then those of the octets
after-prefix : (l : List ℕ) → length l ≤ 63
    → refused_if (ltb (first_outside lace (after_prefix prefix l)) (length (after_prefix prefix l))) 7 (4 + first_outside lace (after_prefix prefix l))
    (refused_if (not (is_readable l)) 9 0
    (refused_if (is_host_label (label_units l)) 6 0
    (done (length (text_of l)))))
    ≡ after_reading (base32.decode_outcome (after_prefix prefix l) 36) (octets_outcome (label_octets l))
unfolding base32.decode_outcome refused_if octets_outcome is_readable both after_reading error_after_prefix label_units text_of
after-prefix l short =
    let cs = after_prefix prefix l in
    let os = label_octets l in
    simp (le-ltb 36 (octet_count (length cs)) (omega (arith, length-drop 4 l)))
    (cases (ltb (first_outside lace cs) (length cs)) (λ e. simp e)
    (λ e. cases (is_lawful (values_of lace cs))
    (λ f. cases (stand_for_units os) (λ g. simp (e, f, g)) (λ g. simp (e, f, g)))
    (λ f. simp (e, f))))

-- the returns of `decode` for a label of 1 to 63 bytes that begins with the prefix, by the Base32 reader's answer
module _ (buffer l : List ℕ) (checked : LabelPassed (length buffer) (length l)) (has : Bool) (has_is : has ≡ has_prefix prefix l) (yes : not has ≡ false)
    (answer : Result ByteCount Refusal) (answer_is : bytes_outcome answer ≡ base32.decode_outcome (passed l) 36) where
  abbrev Answered : Outcome → List ℕ → Type 0
  Answered r left = (r ≡ decode_outcome is_host_label (length buffer) l) × (left ≡ buffer_after (decode_outcome is_host_label (length buffer) l) (text_of l) buffer)

  decode-after : decode_outcome is_host_label (length buffer) l ≡ after_reading (base32.decode_outcome (after_prefix prefix l) 36) (octets_outcome (label_octets l))
  unfolding decode_outcome
  decode-after = label-passes _ _ _ checked ∙ pass-given _ _ _ _ _ (ap not has_is) yes ∙ after-prefix l checked.short

  pub answer-error : (refusal : Refusal) → answer ≡ Err refusal → (r : Outcome) → r ≡ error_after_prefix (number_of refusal.code) refusal.position → Answered r buffer
  unfolding after_reading buffer_after error_after_prefix
  answer-error refusal e r a =
      let o : decode_outcome is_host_label (length buffer) l ≡ error_after_prefix (number_of refusal.code) refusal.position = decode-after ∙ rw (error-is l checked.short answer answer_is refusal e) in
      (a ∙ sym o, rw o (cases (eqb (number_of refusal.code) 7) (λ t. rw t) (λ t. rw t)))

  pub answer-octets : (count : ByteCount) → answer ≡ Ok count → (row old : List ℕ)
      → row ≡ buffer_after (base32.decode_outcome (passed l) 36) (to_octets (values_of lace (passed l))) old
      → (r : Outcome) (left : List ℕ)
      → (r ≡ octets_outcome (take count.0 row)) × (left ≡ buffer_after (octets_outcome (take count.0 row)) (to_points (units_of (take count.0 row))) buffer)
      → Answered r left
  unfolding after_reading text_of label_units
  answer-octets count e row old row_is r left a =
      handed-leaves _ _ _ _ _ buffer left (decode-after ∙ rw (count-is l checked.short answer answer_is count e)) refl
      (rw (octets-front l checked.short answer answer_is count e row old row_is) at a)
