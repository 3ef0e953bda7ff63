-- What the report on two tables says beyond its bytes holds.
use Prim.Native.Nat.{ℕ, zero, suc, ◌+◌, ◌*◌, ◌≤◌, ◌<◌}
use mathlib.Core.Path.{◌≡◌, refl, sym, ap, ◌∙◌}
use mathlib.Core.Bool.{true, false}
use mathlib.Core.List.{List, [], ◌∷◌}
use lib.ListN.{length, drop}
use lib.Seq.{get_or-drop}
use borrow.Author.Tests.{eq-eqb, ne_eqb}
use native.Mathlib.Omega.{arith}
use Rattle.basis.specs.Rows.{at, AllBelow}
use Rattle.basis.specs.Outcome.{done, refused}
use Rattle.basis.proofs.Tests.{cases, by-lt}
use Rattle.basis.proofs.Lists.{row_below}
use Rattle.nametable_format.specs.Format.{header_length, most_entries, number_at, count_of, entry_at, kind_of, reader_of, scheme_in}
use Rattle.nametable.specs.Answer.{read_outcome, text_in}
use Rattle.nametable.proofs.TableLaws.{reader-part, read_table}
use Rattle.nametable_short_format.specs.Format.{short_header_kind, short_length, first_entry, after_first, from_entry, short_entry_at}
use Rattle.nametable_short.specs.Answer.{short_read_outcome, to_short, to_long}
use Rattle.nametable_short_format.proofs.EntryLaws.{long-reader, first-reader}
use Rattle.nametable_short_read.proofs.TableLaws.{short-read-table}
use Rattle.nametable_short_facts.proofs.Moved.{short-reads, long-back, long-reads, long-entry}
use Rattle.report.specs.Lines.{left_word, right_word, side_refused_line, counts_line}
use Rattle.nametable_differences.specs.declared.Difference.{Difference}
use Rattle.nametable_differences.specs.declared.Difference.TheVariants.{Same, OtherText, Respelled, OnlyLeft, OnlyRight}
use Rattle.nametable_differences.specs.Differences.{is_short, verdict_of, in_long_form, reader_numbers, rows_of}
use Rattle.nametable_differences.specs.Report.{how_many, row_lines, rows_report, report_after, report_of, report_capacity}
use Rattle.nametable_differences.proofs.ReaderLaws.{readers-rise}
use Rattle.nametable_differences.proofs.FormLaws.{as-it-is, moved-form, whole-form}
use Rattle.nametable_differences.proofs.RowLaws.{lines-length, report-room}
use Rattle.claims.specs.Differences.{HasAt, Described, readers_of, with_difference, rows_for, AllSame, Differences}
use Rattle.claims.proofs.Rows.{with-count, rows-rise, Small, rows-described, Through, gone-through, all-taken}

-- every byte of a list, and zero past its end
abbrev Bytes : List ℕ → Type 0
Bytes xs = (i : ℕ) → at xs i < 256

bytes_after : (n : ℕ) (xs : List ℕ) → Bytes xs → Bytes (drop n xs)
bytes_after n xs below i = rw (get_or-drop n xs i 0) (below (n + i))

bytes-from : (k : ℕ) (xs : List ℕ) → Bytes xs → Bytes (from_entry k xs)
unfolding from_entry after_first
bytes-from zero xs below = below
bytes-from (suc k) xs below = bytes-from k (drop (short_length (kind_of xs)) xs) (bytes_after (short_length (kind_of xs)) xs below)

-- a reader number of two bytes
reader-small : (xs : List ℕ) → Bytes xs → reader_of xs < reader_numbers
unfolding reader_of number_at
reader-small xs below = omega (arith, below 1, below 2)

-- those of an entry of a long table of bytes, and of a short one
long-small : (t : List ℕ) → Bytes t → (k : ℕ) → reader_of (entry_at t k) < reader_numbers
unfolding entry_at
long-small t below k = rw (reader-part (drop (3 + 67 * k) t)) (reader-small _ (bytes_after (3 + 67 * k) t below))

short-small : (t : List ℕ) (n : ℕ) → short_read_outcome t ≡ done n → Bytes t → (k : ℕ) → k < n → reader_of (entry_at (to_long t) k) < reader_numbers
unfolding short_entry_at
short-small t n read below k h =
    let bytes = from_entry k (drop header_length t) in
    rw (long-entry t n read k h, long-reader (first_entry bytes), first-reader bytes) (reader-small bytes (bytes-from k (drop header_length t) (bytes_after header_length t below)))

-- a table of either form: its verdict and its long form
module _ (t : List ℕ) where
  as_short : is_short t ≡ true → (verdict_of t ≡ short_read_outcome t) × (in_long_form t ≡ to_long t)
  unfolding verdict_of
  as_short s = (rw s, moved-form t s)

  as_long : is_short t ≡ false → (verdict_of t ≡ read_outcome t) × (in_long_form t ≡ t)
  unfolding verdict_of
  as_long s = (rw s, as-it-is t s)

  -- a table that reads whole has its kind
  long-is : (n : ℕ) → read_outcome t ≡ done n → is_short t ≡ false
  unfolding is_short
  long-is n read = ne_eqb (at t 0) short_header_kind (λ e. omega (arith, (read_table t n read).kind))

  short-is : (n : ℕ) → short_read_outcome t ≡ done n → is_short t ≡ true
  unfolding is_short
  short-is n read = eq-eqb _ _ (short-read-table t n read).header.is

  module _ (n : ℕ) (read : verdict_of t ≡ done n) where
    inside-few : count_of (in_long_form t) ≤ most_entries
    inside-few = (read_table (in_long_form t) n (whole-form t read)).few

    inside-count : n ≡ count_of (in_long_form t)
    inside-count = (read_table (in_long_form t) n (whole-form t read)).counted

    -- and of bytes its reader numbers have two
    inside-small : AllBelow 256 t → Small (in_long_form t)
    inside-small bytes k h =
        let below : Bytes t = row_below 256 t (omega arith) bytes in
        cases (is_short t)
        (λ s. let f = as_short s in rw f.1 (short-small t n (sym f.0 ∙ read) below k (omega (arith, inside-count))))
        (λ s. let f = as_long s in rw f.1 (long-small t below k))

-- a report that is a refusal, and one on two whole tables
pub refused-left : (left right : List ℕ) (number position : ℕ) → verdict_of left ≡ refused number position → report_of left right ≡ side_refused_line left_word number position
unfolding report_of report_after
refused-left left right number position l = rw l

pub refused-right : (left right : List ℕ) (m number position : ℕ) → verdict_of left ≡ done m → verdict_of right ≡ refused number position
    → report_of left right ≡ side_refused_line right_word number position
unfolding report_of report_after
refused-right left right m number position l r = rw (l, r)

module _ (left right : List ℕ) (m n : ℕ) (read_left : verdict_of left ≡ done m) (read_right : verdict_of right ≡ done n) where
  whole-report : report_of left right ≡ rows_report (rows_for left right)
  unfolding report_of report_after
  whole-report = rw (read_left, read_right)

  -- both gone through
  through : Through (in_long_form left) (in_long_form right)
  through = gone-through (in_long_form left) (in_long_form right) (whole-form left read_left) (whole-form right read_right)

  -- there is room for it
  pub whole_room : length (report_of left right) ≤ report_capacity
  whole_room = rw whole-report (report-room (in_long_form left) (in_long_form right) _ _ _ _ through.merged (inside-few left m read_left) (inside-few right n read_right))

-- a long table of reader numbers of two bytes, and itself
module _ (t : List ℕ) (n : ℕ) (read : read_outcome t ≡ done n) (small : Small t) where
  -- a reader number is one entry's
  one_index : (i j x : ℕ) → HasAt t i x → HasAt t j x → i ≡ j
  one_index i j x h g =
      by-lt i j (λ l. absurd (omega (arith, readers-rise t n read i j l g.0, h.1, g.1)))
      (λ l. by-lt j i (λ k. absurd (omega (arith, readers-rise t n read j i k h.0, h.1, g.1))) (λ k. omega arith))

  -- a difference that describes none has no rows
  none-counted : (d : Difference) → ((x : ℕ) → Described d t t x → ⊥) → how_many d (rows_of t t) ≡ 0
  none-counted d none =
      let l = rows-described t t read read small small d in
      with-count d (rows_of t t)
      ∙ by-lt 0 (length (readers_of (with_difference d (rows_of t t)))) (λ h. absurd (none _ (l.each 0 h))) (λ h. omega arith)

  no_other : (x : ℕ) → Described OtherText t t x → ⊥
  no_other x p = p.4 (ap (λ (k : ℕ). text_in (entry_at t k)) (one_index p.0 p.1 x p.2 p.3))

  no-respelled : (x : ℕ) → Described Respelled t t x → ⊥
  no-respelled x p = p.4.1 (ap (λ (k : ℕ). scheme_in (entry_at t k)) (one_index p.0 p.1 x p.2 p.3))

  -- so all rows are the same
  itself-report : rows_report (rows_of t t) ≡ counts_line n 0 0 0 0
  unfolding rows_report
  itself-report =
      let other = none-counted OtherText no_other in
      let respelled = none-counted Respelled no-respelled in
      let left = none-counted OnlyLeft (λ x p. p.1 p.0) in
      let right = none-counted OnlyRight (λ x p. p.1 p.0) in
      let all = gone-through t t read read in
      let same : how_many Same (rows_of t t) ≡ n
      = omega (arith, other, respelled, left, all.merged.left_sum, all-taken t _ _ small all.merged.left_split all.left_done, (read_table t n read).counted) in
      rw (none-there (row_lines (rows_of t t)) (omega (arith, lines-length (rows_of t t), other, respelled, left, right)), other, respelled, left, right, same)
    where
      none-there : (l : List ℕ) → length l ≡ 0 → l ≡ []
      none-there [] e = refl
      none-there (x ∷ l) e = absurd (omega arith)

-- two tables with the same long form
same-report : (left right t : List ℕ) (n : ℕ) → verdict_of left ≡ done n → verdict_of right ≡ done n → in_long_form left ≡ t → in_long_form right ≡ t → Small t → AllSame left right n
same-report left right t n read_left read_right is_left is_right small =
    let read : read_outcome t ≡ done n = rw is_left at (whole-form left read_left) in
    whole-report left right n n read_left read_right ∙ rw (is_left, is_right) (itself-report t n read small)

-- and so a long table and a short one that it is the long form of
two-forms : (long short : List ℕ) (n : ℕ) → read_outcome long ≡ done n → short_read_outcome short ≡ done n → to_long short ≡ long → Small long
    → AllSame long short n × AllSame short long n
two-forms long short n read_long read_short is small =
    let l = as_long long (long-is long n read_long) in
    let s = as_short short (short-is short n read_short) in (
      same-report long short long n (l.0 ∙ read_long) (s.0 ∙ read_short) l.1 (s.1 ∙ is) small,
      same-report short long long n (s.0 ∙ read_short) (l.0 ∙ read_long) (s.1 ∙ is) l.1 small,
    )

pub differences : Differences
differences = record {
  left_refused = refused-left;
  right_refused = refused-right;
  whole_tables = λ left right m n w. (whole-report left right m n w.left_reads w.right_reads, omega (arith, whole_room left right m n w.left_reads w.right_reads));
  in_order = λ left right. rows-rise (in_long_form left) (in_long_form right);
  described = λ left right m n w.
      rows-described (in_long_form left) (in_long_form right) (whole-form left w.left_reads) (whole-form right w.right_reads)
      (inside-small left m w.left_reads w.left_bytes) (inside-small right n w.right_reads w.right_bytes);
  counts = with-count;
  left_total = λ left right m n w.
      let all = through left right m n w.left_reads w.right_reads in
      omega (arith, all.merged.left_sum, all-taken (in_long_form left) _ _ (inside-small left m w.left_reads w.left_bytes) all.merged.left_split all.left_done, inside-count left m w.left_reads);
  right_total = λ left right m n w.
      let all = through left right m n w.left_reads w.right_reads in
      omega (arith, all.merged.right_sum, all-taken (in_long_form right) _ _ (inside-small right n w.right_reads w.right_bytes) all.merged.right_split all.right_done, inside-count right n w.right_reads);
  itself = λ table n bytes read. same-report table table (in_long_form table) n read read refl refl (inside-small table n read bytes);
  short_form = λ table n bytes read.
      let v = as_long table (long-is table n read) in
      two-forms table (to_short table) n read (short-reads table n read) (long-back table n read) (rw v.1 at (inside-small table n (v.0 ∙ read) bytes));
  long_form = λ table n bytes read.
      let v = as_short table (short-is table n read) in
      let both = two-forms (to_long table) table n (long-reads table n read) read refl (rw v.1 at (inside-small table n (v.0 ∙ read) bytes)) in
      (both.1, both.0);
}
