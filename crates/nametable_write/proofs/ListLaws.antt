-- Laws on a list of entries to be written: its rows as they were tested, and its entries one by one,
-- judged and stored.
use Prim.Native.Nat.{ℕ, suc, ◌+◌, ◌-◌, ◌*◌, ◌/◌, ◌≤◌, ◌<◌}
use mathlib.Core.Path.{◌≡◌, refl, sym, ap, ◌∙◌}
use mathlib.Core.Bool.{true, false, not}
use mathlib.Core.List.{List, [], ◌∷◌}
use lib.Dec.{eqb, ltb}
use lib.ListN.{length, get_or, take, drop, drop_of_length-le}
use lib.Seq.{drop-cons, drop-drop}
use borrow.Author.Tests.{lt-ltb, le-ltb, eqb-true, eqb-false, eq-eqb, ne_eqb}
use native.Mathlib.Numerals.{add-one}
use native.Mathlib.Omega.{arith}
use Rattle.std.proofs.Common.{Option, Some, None, Result, Ok, Err}
use Rattle.basis.specs.Outcome.{Outcome, done, refused, refused_if, and_then, outcome_by, bytes_outcome}
use Rattle.basis.specs.declared.ByteCount.{ByteCount}
use Rattle.basis.specs.declared.Refusal.{Refusal}
use Rattle.basis.proofs.Tests.{cases, ltb-is, within-true, within-below, within-above}
use Rattle.basis.proofs.Outcome.{stop-if, pass-if, stop-below, pass_below}
use Rattle.scheme.specs.Naming.{own_number_names, is_known, scheme_named}
use Rattle.scheme.specs.Coding.{encode_outcome}
use Rattle.scheme.specs.declared.Scheme.{Scheme}
use Rattle.nametable_format.specs.Format.{header_length, most_entries, entry_length, label_capacity, table_length}
use Rattle.nametable_write.specs.Writing.{Entry, entry, entries_of, sum_of, list_tests, scheme_of, entry_written, reader_in, entries_written}
use Rattle.nametable_write.specs.Tested.{Tested, entries_in}
use Rattle.nametable_write.specs.declared.entry_list.EntryList.{EntryList}

-- so many bytes hold no table of so many entries, told by division
pub room-by-quotient : (bytes count : ℕ) → header_length ≤ bytes → ltb ((bytes - header_length) / entry_length) count ≡ ltb bytes (table_length count)
room-by-quotient bytes count h =
    ltb-is ((bytes - 3) / 67) count (ltb bytes (3 + 67 * count)) (λ g. lt-ltb bytes (3 + 67 * count) (omega arith)) (λ g. le-ltb bytes (3 + 67 * count) (omega arith))

-- the sum of the lengths from an index on: one length more, and none
sum-next : (lengths : List ℕ) (i : ℕ) → i < length lengths → sum_of (drop i lengths) ≡ get_or lengths i 0 + sum_of (drop (i + 1) lengths)
unfolding sum_of
sum-next lengths i h = rw (drop-cons lengths i 0 h, add-one i)

sum-none : (lengths : List ℕ) (i : ℕ) → length lengths ≤ i → sum_of (drop i lengths) ≡ 0
unfolding sum_of
sum-none lengths i h = rw (drop_of_length-le lengths h)

-- lengths that are taken from a total: a length that is over what is left, one more, and all
module _ (lengths : List ℕ) (i left total : ℕ) where
  pub sum_over : i < length lengths → sum_of (drop i lengths) + total ≡ sum_of lengths + left → left < get_or lengths i 0 → false ≡ eqb (sum_of lengths) total
  sum_over h s g = sym (ne_eqb (sum_of lengths) total (λ e. omega (arith, sum-next lengths i h)))

  pub sum-turn : i < length lengths → sum_of (drop i lengths) + total ≡ sum_of lengths + left → get_or lengths i 0 ≤ left
      → sum_of (drop (i + 1) lengths) + total ≡ sum_of lengths + (left - get_or lengths i 0)
  sum-turn h s g = omega (arith, sum-next lengths i h)

  pub sum-all : length lengths ≤ i → sum_of (drop i lengths) + total ≡ sum_of lengths + left → eqb left 0 ≡ eqb (sum_of lengths) total
  sum-all h s =
      let z = sum-none lengths i h in
      cases (eqb left 0)
      (λ e. let n = eqb-true left 0 e in e ∙ sym (eq-eqb (sum_of lengths) total (omega arith)))
      (λ e. e ∙ sym (ne_eqb (sum_of lengths) total (λ q. eqb-false left 0 e (omega arith))))

-- the tests on the rows in their turn
module _ (readers schemes lengths points : List ℕ) where
  abbrev NoList : Type 0
  NoList = Tested readers schemes lengths points None

  pub no-readers : length readers < 1 → NoList
  unfolding list_tests
  no-readers h next = stop-if 14 0 _ _ (ap not (within-below 1 most_entries (length readers) h))

  pub many-readers : most_entries < length readers → NoList
  unfolding list_tests
  many-readers h next = stop-if 14 0 _ _ (ap not (within-above 1 most_entries (length readers) h))

  module _ (some : 1 ≤ length readers) (few : length readers ≤ most_entries) where
    pub other-schemes : (length schemes ≡ length readers → ⊥) → NoList
    unfolding list_tests
    other-schemes d next = pass-if 14 0 _ _ (ap not (within-true 1 most_entries (length readers) some few)) ∙ stop-if 14 0 _ _ (ap not (ne_eqb _ _ d))

    module _ (schemed : length schemes ≡ length readers) where
      by_lengths : (next : Outcome) → list_tests readers schemes lengths points next
          ≡ refused_if (not (eqb (length lengths) (length readers))) 14 0 (refused_if (not (eqb (sum_of lengths) (length points))) 14 0 next)
      unfolding list_tests
      by_lengths next = pass-if 14 0 _ _ (ap not (within-true 1 most_entries (length readers) some few)) ∙ pass-if 14 0 _ _ (ap not (eq-eqb _ _ schemed))

      pub other-lengths : (length lengths ≡ length readers → ⊥) → NoList
      other-lengths d next = by_lengths next ∙ stop-if 14 0 _ _ (ap not (ne_eqb _ _ d))

      module _ (measured : length lengths ≡ length readers) where
        pub other_sum : false ≡ eqb (sum_of lengths) (length points) → NoList
        other_sum e next = by_lengths next ∙ pass-if 14 0 _ _ (ap not (eq-eqb _ _ measured)) ∙ stop-if 14 0 _ _ (ap not (sym e))

        pub tests-passed : true ≡ eqb (sum_of lengths) (length points) → (next : Outcome) → list_tests readers schemes lengths points next ≡ next
        tests-passed e next = by_lengths next ∙ pass-if 14 0 _ _ (ap not (eq-eqb _ _ measured)) ∙ pass-if 14 0 _ _ (ap not (sym e))

-- the tests on one entry in their turn, by what the code tested
module _ (least reader scheme : ℕ) (text : List ℕ) where
  pub reader-below : reader < least → entry_written least (entry reader scheme text) ≡ refused 14 0
  unfolding entry_written
  reader-below h = stop-below 14 0 _ _ _ h

  module _ (rising : least ≤ reader) {named : Option Scheme} (names : named ≡ own_number_names scheme) where
    pub unknown-scheme : named ≡ None → entry_written least (entry reader scheme text) ≡ refused 14 0
    unfolding entry_written is_known
    unknown-scheme is = pass_below 14 0 _ _ _ rising ∙ stop-if 14 0 _ _ (rw (← names, is))

    pub by-label : {s : Scheme} → named ≡ Some s → entry_written least (entry reader scheme text) ≡ encode_outcome s label_capacity text
    unfolding entry_written scheme_of scheme_named is_known
    by-label is = pass_below 14 0 _ _ _ rising ∙ pass-if 14 0 _ _ (rw (← names, is)) ∙ rw (← names, is)

-- as many entries as readers
pub listed-count : (readers schemes lengths points : List ℕ) → length schemes ≡ length readers → length lengths ≡ length readers
    → length (entries_of readers schemes lengths points) ≡ length readers
unfolding entries_of
listed-count [] schemes lengths points s l = refl
listed-count (reader ∷ readers) [] lengths points s l = absurd (omega (arith, s))
listed-count (reader ∷ readers) (scheme ∷ schemes) [] points s l = absurd (omega (arith, l))
listed-count (reader ∷ readers) (scheme ∷ schemes) (n ∷ lengths) points s l = ap suc (listed-count readers schemes lengths (drop n points) (omega (arith, s)) (omega (arith, l)))

-- the entries of a list from an index on, whose points begin at a start
module _ (list : EntryList) where
  abbrev pub left : (i start : ℕ) → List Entry
  left i start = entries_of (drop i list.readers.now) (drop i list.schemes.now) (drop i list.lengths.now) (drop start list.points.now)

  -- the first of them, its text as the part of the points that is passed on
  abbrev pub next : (i start : ℕ) → Entry
  next i start = entry (get_or list.readers.now i 0) (get_or list.schemes.now i 0) (take (start + get_or list.lengths.now i 0 - start) (drop start list.points.now))

  pub nothing_left : (i start : ℕ) → length list.readers.now ≤ i → left i start ≡ []
  unfolding entries_of
  nothing_left i start h = rw (drop_of_length-le list.readers.now h)

  pub judge-ends : (i least start total : ℕ) → length list.readers.now ≤ i → entries_written i least (left i start) total ≡ done total
  unfolding entries_written
  judge-ends i least start total h = rw (nothing_left i start h)

  pub left-count : length (entries_in list) ≡ length list.readers.now
  left-count = listed-count list.readers.now list.schemes.now list.lengths.now list.points.now list.rows.schemed list.rows.measured

  module _ (i start : ℕ) (more : i < length list.readers.now) where
    pub left-next : left i start ≡ next i start ∷ left (i + 1) (start + get_or list.lengths.now i 0)
    unfolding entries_of
    left-next =
        let n : start + get_or list.lengths.now i 0 - start ≡ get_or list.lengths.now i 0 = omega arith in
        let s : i < length list.schemes.now = omega (arith, list.rows.schemed) in
        let l : i < length list.lengths.now = omega (arith, list.rows.measured) in
        rw (drop-cons list.readers.now i 0 more, drop-cons list.schemes.now i 0 s, drop-cons list.lengths.now i 0 l, n, add-one i, ← drop-drop (get_or list.lengths.now i 0) start list.points.now)

    -- its points are among those left, and the others are left
    pub points-next : start + sum_of (drop i list.lengths.now) ≡ length list.points.now → start + get_or list.lengths.now i 0 + sum_of (drop (i + 1) list.lengths.now) ≡ length list.points.now
    points-next h = omega (arith, sum-next list.lengths.now i (omega (arith, list.rows.measured)))

    -- it was judged: it is refused, or the entries after it decide
    module _ (least total : ℕ) (judged : Result ByteCount Refusal) (judges : bytes_outcome judged ≡ entry_written least (next i start)) where
      pub judge-stops : {refusal moved : Refusal} → judged ≡ Err refusal → moved ≡ record { code = refusal.code; position = i }
          → bytes_outcome (Err moved) ≡ entries_written i least (left i start) total
      unfolding outcome_by entries_written and_then
      judge-stops is at = rw (at, left-next, ← judges, is)

      pub judge-goes : {n : ByteCount} → judged ≡ Ok n
          → entries_written (i + 1) (get_or list.readers.now i 0 + 1) (left (i + 1) (start + get_or list.lengths.now i 0)) total ≡ entries_written i least (left i start) total
      unfolding outcome_by entries_written and_then reader_in
      judge-goes is = rw (left-next, ← judges, is, add-one i, add-one (get_or list.readers.now i 0))
