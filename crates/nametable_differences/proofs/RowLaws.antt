-- Rows: their lines and counts, those of two whole tables in the order in which both are gone through, and the room for the report.
use Prim.Native.Nat.{ℕ, zero, suc, ◌+◌, ◌*◌, ◌/◌, ◌≤◌, ◌<◌, min}
use mathlib.Core.Path.{◌≡◌, refl, sym, ap, ◌∙◌}
use mathlib.Core.Bool.{true, false}
use mathlib.Core.List.{List, [], ◌∷◌, ◌++◌, append_assoc, append-nil}
use lib.ListN.{length, length-append}
use borrow.Author.Tests.{lt-ltb, le-ltb}
use native.Mathlib.Omega.{arith}
use Rattle.basis.specs.Outcome.{done}
use Rattle.basis.proofs.Tests.{cases, by-lt}
use Rattle.nametable_format.specs.Format.{most_entries, count_of, entry_at, reader_of}
use Rattle.nametable.specs.Answer.{read_outcome, text_in}
use Rattle.report.specs.Digits.{digit_count, digits_of}
use Rattle.report.specs.Lines.{other_word, text_word, respelled_word, only_word, left_word, right_word, counts_line}
use Rattle.report.proofs.DigitLaws.{digits-length, count-below-power}
use Rattle.report.proofs.LineLaws.{difference-length, counts-length}
use Rattle.nametable_differences.specs.declared.Difference.{Difference}
use Rattle.nametable_differences.specs.declared.Difference.TheVariants.{Same, OtherText, Respelled, OnlyLeft, OnlyRight}
use Rattle.nametable_differences.specs.Differences.{index_of, has_reader, same_text, same_scheme, compared, Row, row, row_at, rows_below, reader_numbers, rows_of}
use Rattle.nametable_differences.specs.Report.{row_line, row_lines, rank_of, same_difference, one_if, how_many, rows_report, report_capacity}
use Rattle.nametable_differences.specs.Internal.{next_reader, next_difference, left_taken, right_taken}
use Rattle.nametable_differences.proofs.ReaderLaws.{next-inside, next_past, Split, split-start, split-next, split-past, split-present, split-up, split-absent}

-- the lines of rows, and of one more
pub rows_append : (rs : List Row) (r : Row) → row_lines (rs ++ (r ∷ [])) ≡ row_lines rs ++ row_line r
unfolding row_lines
rows_append [] r = append-nil (row_line r)
rows_append (q ∷ rs) r = ap (λ (l : List ℕ). row_line q ++ l) (rows_append rs r) ∙ sym (append_assoc (row_line q) (row_lines rs) (row_line r))

-- how many rows have a difference, and with one more
pub count-append : (d : Difference) (rs : List Row) (reader : ℕ) (e : Difference) → how_many d (rs ++ (row reader e ∷ [])) ≡ how_many d rs + one_if d e
unfolding how_many
count-append d [] reader e = omega arith
count-append d (row first f ∷ rs) reader e = omega (arith, count-append d rs reader e)

-- reader numbers that neither table has give no row
pub quiet : (left right : List ℕ) (m n : ℕ) → m ≤ n → ((x : ℕ) → m ≤ x → x < n → row_at left right x ≡ []) → rows_below left right n ≡ rows_below left right m
unfolding rows_below
quiet left right m zero h none = let e : m ≡ 0 = omega arith in rw e
quiet left right m (suc n) h none =
    by-lt n m (λ l. let e : m ≡ suc n = omega arith in rw e)
    (λ l. rw (none n l (omega arith), append-nil (rows_below left right n)) (quiet left right m n l (λ x low high. none x low (omega arith))))

-- the row of a reader number, by which of the tables have it
module _ (left right : List ℕ) (x : ℕ) where
  pub row-none : has_reader left x ≡ false → has_reader right x ≡ false → row_at left right x ≡ []
  unfolding row_at
  row-none l r = rw (l, r)

  pub row-left : has_reader left x ≡ true → has_reader right x ≡ false → row_at left right x ≡ row x OnlyLeft ∷ []
  unfolding row_at
  row-left l r = rw (l, r)

  pub row-right : has_reader left x ≡ false → has_reader right x ≡ true → row_at left right x ≡ row x OnlyRight ∷ []
  unfolding row_at
  row-right l r = rw (l, r)

  pub row-both : has_reader left x ≡ true → has_reader right x ≡ true
      → row_at left right x ≡ row x (compared (entry_at left (index_of left x)) (entry_at right (index_of right x))) ∷ []
  unfolding row_at
  row-both l r = rw (l, r)

-- the bytes of a row's line, by its difference
row-length : (reader : ℕ) (d : Difference) → length (row_line (row reader d)) ≡ 16 * (one_if Respelled d + one_if OnlyLeft d) + 17 * (one_if OtherText d + one_if OnlyRight d)
unfolding row_line one_if same_difference rank_of only_word text_word other_word respelled_word left_word right_word
row-length reader Same = refl
row-length reader OtherText = difference-length reader _
row-length reader Respelled = difference-length reader _
row-length reader OnlyLeft = difference-length reader _
row-length reader OnlyRight = difference-length reader _

-- the bytes of the lines of rows, by their counts
pub lines-length : (rs : List Row) → length (row_lines rs) ≡ 16 * (how_many Respelled rs + how_many OnlyLeft rs) + 17 * (how_many OtherText rs + how_many OnlyRight rs)
unfolding row_lines how_many
lines-length [] = refl
lines-length (row reader d ∷ rs) = omega (arith, length-append (row_line (row reader d)) (row_lines rs), row-length reader d, lines-length rs)

-- a number has no more digits than its value, and one for zero
count_most : (base bound n : ℕ) → digit_count base bound n ≤ bound
unfolding digit_count
count_most base zero n = omega arith
count_most base (suc bound) zero = omega arith
count_most base (suc bound) (suc n) = omega (arith, count_most base bound (suc n / base))

digits-few : (n : ℕ) → length (digits_of 10 1 n) ≤ 1 + n
digits-few n = omega (arith, digits-length 10 1 n, count_most 10 n n)

-- a number below 1000 has at most three
three-digits : (n : ℕ) → n < 1000 → length (digits_of 10 1 n) ≤ 3
three-digits n h = omega (arith, digits-length 10 1 n, count-below-power 10 (omega arith) 3 n h)

-- the lines and the counts of two tables of at most 500 entries fit the room for the report
pub report-fits : (same other respelled left right : ℕ) → same + other + respelled + left ≤ most_entries → same + other + respelled + right ≤ most_entries
    → 16 * (respelled + left) + 17 * (other + right) + length (counts_line same other respelled left right) ≤ report_capacity
report-fits same other respelled left right l r =
    omega (arith, counts-length same other respelled left right, digits-few same, digits-few other, digits-few respelled, three-digits left (omega arith), three-digits right (omega arith))

-- how many entries of each table a row takes
left-taken : (d : Difference) → one_if Same d + one_if OtherText d + one_if Respelled d + one_if OnlyLeft d ≡ left_taken d
unfolding one_if same_difference rank_of left_taken
left-taken Same = refl
left-taken OtherText = refl
left-taken Respelled = refl
left-taken OnlyLeft = refl
left-taken OnlyRight = refl

right-taken : (d : Difference) → one_if Same d + one_if OtherText d + one_if Respelled d + one_if OnlyRight d ≡ right_taken d
unfolding one_if same_difference rank_of right_taken
right-taken Same = refl
right-taken OtherText = refl
right-taken Respelled = refl
right-taken OnlyLeft = refl
right-taken OnlyRight = refl

-- two entries that are compared are taken both
both-taken : (e f : List ℕ) → (left_taken (compared e f) ≡ 1) × (right_taken (compared e f) ≡ 1)
unfolding compared left_taken right_taken
both-taken e f =
    cases (same_text (text_in e) (text_in f))
    (λ t. cases (same_scheme e f) (λ s. rw (t, s) (refl, refl)) (λ s. rw (t, s) (refl, refl)))
    (λ t. rw t (refl, refl))

-- both tables are gone through up to the entries i and j, whose reader numbers are m or more, and the rows of those below m are rs
pub record Merged (left right : List ℕ) (i j m : ℕ) (rs : List Row) : Type 0 where
  pub rows : rows_below left right m ≡ rs
  pub left_split : Split left i m
  pub right_split : Split right j m
  pub left_sum : how_many Same rs + how_many OtherText rs + how_many Respelled rs + how_many OnlyLeft rs ≡ i
  pub right_sum : how_many Same rs + how_many OtherText rs + how_many Respelled rs + how_many OnlyRight rs ≡ j
  pub bound : m ≤ reader_numbers

pub merged-start : (left right : List ℕ) → Merged left right 0 0 0 []
unfolding rows_below how_many
merged-start left right = record {
  rows = refl;
  left_split = split-start left;
  right_split = split-start right;
  left_sum = refl;
  right_sum = refl;
  bound = omega arith;
}

-- no entry left of either table: these are all rows
pub merged-end : (left right : List ℕ) (i j m : ℕ) (rs : List Row) → Merged left right i j m rs → count_of left + count_of right ≤ i + j → rows_of left right ≡ rs
unfolding rows_of
merged-end left right i j m rs g h =
    let l = g.left_split in
    let r = g.right_split in
    quiet left right m reader_numbers g.bound (λ x low high. row-none left right x (split-past left i m l (omega (arith, r.inside)) x low) (split-past right j m r (omega (arith, l.inside)) x low)) ∙ g.rows

-- there is room for the report on merged rows
pub report-room : (left right : List ℕ) (i j m : ℕ) (rs : List Row) → Merged left right i j m rs → count_of left ≤ most_entries → count_of right ≤ most_entries
    → length (rows_report rs) ≤ report_capacity
unfolding rows_report
report-room left right i j m rs g l r =
    let counts = counts_line (how_many Same rs) (how_many OtherText rs) (how_many Respelled rs) (how_many OnlyLeft rs) (how_many OnlyRight rs) in
    omega (
      arith,
      length-append (row_lines rs) counts,
      lines-length rs,
      report-fits (how_many Same rs) (how_many OtherText rs) (how_many Respelled rs) (how_many OnlyLeft rs) (how_many OnlyRight rs) (omega (arith, g.left_sum, g.left_split.inside)) (omega (arith, g.right_sum, g.right_split.inside)),
    )

-- and for the line of the last of them
pub row_room : (left right : List ℕ) (i j m : ℕ) (rs : List Row) (r : Row) → Merged left right i j m (rs ++ (r ∷ [])) → count_of left ≤ most_entries → count_of right ≤ most_entries
    → length (row_lines rs) + length (row_line r) ≤ report_capacity
unfolding rows_report
row_room left right i j m rs r g few others =
    let all = rs ++ (r ∷ []) in
    let counts = counts_line (how_many Same all) (how_many OtherText all) (how_many Respelled all) (how_many OnlyLeft all) (how_many OnlyRight all) in
    omega (arith, report-room left right i j m all g few others, length-append (row_lines all) counts, ap length (rows_append rs r), length-append (row_lines rs) (row_line r))

-- one row more of two whole tables
module _ (left right : List ℕ) {a b : ℕ} (read_left : read_outcome left ≡ done a) (read_right : read_outcome right ≡ done b)
    (i j m : ℕ) (rs : List Row) (g : Merged left right i j m rs) where
  -- the next reader numbers are no smaller
  next-left : m ≤ next_reader left i
  next-left =
      by-lt i (count_of left) (λ h. omega (arith, next-inside left i h, g.left_split.above i (omega arith) h))
      (λ h. omega (arith, next_past left i h, g.bound))

  next-right : m ≤ next_reader right j
  next-right =
      by-lt j (count_of right) (λ h. omega (arith, next-inside right j h, g.right_split.above j (omega arith) h))
      (λ h. omega (arith, next_past right j h, g.bound))

  -- a next reader number that is one is an entry's
  left-inside : next_reader left i < reader_numbers → i < count_of left
  left-inside h = by-lt i (count_of left) (λ l. l) (λ l. absurd (omega (arith, next_past left i l)))

  right-inside : next_reader right j < reader_numbers → j < count_of right
  right-inside h = by-lt j (count_of right) (λ l. l) (λ l. absurd (omega (arith, next_past right j l)))

  -- up to a reader number that is no larger than the next of either table there is no row
  pub none_before : (x : ℕ) → m ≤ x → x ≤ next_reader left i → x ≤ next_reader right j → rows_below left right x ≡ rs
  none_before x low l r =
      quiet left right m x low (λ y from to. row-none left right y (split-absent left a read_left i m g.left_split y from (omega arith)) (split-absent right b read_right j m g.right_split y from (omega arith))) ∙ g.rows

  -- the row of that reader number
  with_row : (x : ℕ) (d : Difference) → m ≤ x → x ≤ next_reader left i → x ≤ next_reader right j → x < reader_numbers → row_at left right x ≡ row x d ∷ []
      → Split left (i + left_taken d) (suc x) → Split right (j + right_taken d) (suc x)
      → Merged left right (i + left_taken d) (j + right_taken d) (suc x) (rs ++ (row x d ∷ []))
  unfolding rows_below
  with_row x d low l r small is left_split right_split = record {
    rows = rw (none_before x low l r, is);
    left_split = left_split;
    right_split = right_split;
    left_sum = omega (arith, g.left_sum, left-taken d, count-append Same rs x d, count-append OtherText rs x d, count-append Respelled rs x d, count-append OnlyLeft rs x d);
    right_sum = omega (arith, g.right_sum, right-taken d, count-append Same rs x d, count-append OtherText rs x d, count-append Respelled rs x d, count-append OnlyRight rs x d);
    bound = omega arith;
  }

  -- of a reader number of the left table only, of the right one only, of both
  only-left : next_reader left i < next_reader right j → next_reader left i < reader_numbers
      → Merged left right (i + 1) (j + 0) (suc (next_reader left i)) (rs ++ (row (next_reader left i) OnlyLeft ∷ []))
  unfolding left_taken right_taken
  only-left h small =
      let in_left = left-inside small in
      let is = next-inside left i in_left in
      let same : j + 0 ≡ j = omega arith in
      with_row (next_reader left i) OnlyLeft next-left (omega arith) (omega arith) small
      (row-left left right (next_reader left i) (rw is (split-present left i m g.left_split in_left).0) (split-absent right b read_right j m g.right_split (next_reader left i) next-left h))
      (rw is (split-next left a read_left i in_left))
      (rw same (split-up right b read_right j m g.right_split (suc (next_reader left i)) (omega (arith, next-left)) h))

  only-right : next_reader right j < next_reader left i → next_reader right j < reader_numbers
      → Merged left right (i + 0) (j + 1) (suc (next_reader right j)) (rs ++ (row (next_reader right j) OnlyRight ∷ []))
  unfolding left_taken right_taken
  only-right h small =
      let in_right = right-inside small in
      let is = next-inside right j in_right in
      let same : i + 0 ≡ i = omega arith in
      with_row (next_reader right j) OnlyRight next-right (omega arith) (omega arith) small
      (row-right left right (next_reader right j) (split-absent left a read_left i m g.left_split (next_reader right j) next-right h) (rw is (split-present right j m g.right_split in_right).0))
      (rw same (split-up left a read_left i m g.left_split (suc (next_reader right j)) (omega (arith, next-right)) h))
      (rw is (split-next right b read_right j in_right))

  in_both : (x : ℕ) (d : Difference) → next_reader left i ≡ x → next_reader right j ≡ x → x < reader_numbers → d ≡ compared (entry_at left i) (entry_at right j)
      → Merged left right (i + left_taken d) (j + right_taken d) (suc x) (rs ++ (row x d ∷ []))
  in_both x d l r small is =
      let in_left = left-inside (omega arith) in
      let in_right = right-inside (omega arith) in
      let left_is : reader_of (entry_at left i) ≡ x = sym (next-inside left i in_left) ∙ l in
      let right_is : reader_of (entry_at right j) ≡ x = sym (next-inside right j in_right) ∙ r in
      let left-has = rw left_is at (split-present left i m g.left_split in_left) in
      let right-has = rw right_is at (split-present right j m g.right_split in_right) in
      let taken = both-taken (entry_at left i) (entry_at right j) in
      let left_one : left_taken d ≡ 1 = ap left_taken is ∙ taken.0 in
      let right-one : right_taken d ≡ 1 = ap right_taken is ∙ taken.1 in
      with_row x d (omega (arith, next-left)) (omega arith) (omega arith) small
      (row-both left right x left-has.0 right-has.0 ∙ rw (left-has.1, right-has.1, is))
      (rw (left_one, ← left_is) (split-next left a read_left i in_left))
      (rw (right-one, ← right_is) (split-next right b read_right j in_right))

  -- of the lower of the next reader numbers
  pub merged-more : (reader : ℕ) → reader ≡ min (next_reader left i) (next_reader right j) → reader < reader_numbers → (d : Difference) → d ≡ next_difference left i right j
      → Merged left right (i + left_taken d) (j + right_taken d) (suc reader) (rs ++ (row reader d ∷ []))
  unfolding next_difference left_taken right_taken
  merged-more reader lower small d is =
      by-lt (next_reader left i) (next_reader right j)
      (λ h.
      let e : reader ≡ next_reader left i = omega arith in
      let f : d ≡ OnlyLeft = is ∙ rw (lt-ltb _ _ h) in
      rw (f, e) (only-left h (omega arith)))
      (λ h. by-lt (next_reader right j) (next_reader left i)
      (λ k.
      let e : reader ≡ next_reader right j = omega arith in
      let f : d ≡ OnlyRight = is ∙ rw (le-ltb _ _ h, lt-ltb _ _ k) in
      rw (f, e) (only-right k (omega arith)))
      (λ k. in_both reader d (omega arith) (omega arith) small (is ∙ rw (le-ltb _ _ h, le-ltb _ _ k))))
