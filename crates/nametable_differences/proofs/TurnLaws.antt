-- A turn of the loop that reports the rows of two whole long tables, one after the other.
use Prim.Native.Nat.{ℕ, suc, ◌+◌, ◌≤◌, ◌<◌}
use mathlib.Core.Path.{◌≡◌, ap, ◌∙◌}
use mathlib.Core.List.{List, [], ◌∷◌, ◌++◌}
use lib.ListN.{length, drop, length-append}
use borrow.Author.Tests.{lt-ltb, le-ltb}
use native.Mathlib.Omega.{arith}
use Rattle.basis.specs.Outcome.{done}
use Rattle.basis.specs.Internal.{Stored}
use Rattle.basis.proofs.Lists.{sets-front}
use Rattle.basis.proofs.Stores.{stored-none, stored-append}
use Rattle.nametable_format.specs.Format.{most_entries, count_of, entry_at}
use Rattle.nametable.specs.Answer.{read_outcome}
use Rattle.nametable.proofs.TableLaws.{read_table}
use Rattle.report.specs.Lines.{counts_line}
use Rattle.nametable_differences.specs.declared.Difference.{Difference}
use Rattle.nametable_differences.specs.declared.Difference.TheVariants.{Same, OtherText, Respelled, OnlyLeft, OnlyRight}
use Rattle.report.specs.declared.Counts.{Counts}
use Rattle.nametable_differences.specs.declared.rows.Found.{Found}
use Rattle.nametable_differences.specs.Differences.{compared, Row, row, reader_numbers, rows_of}
use Rattle.nametable_differences.specs.Report.{row_line, row_lines, how_many, rows_report, report_capacity}
use Rattle.nametable_differences.specs.Internal.{next_reader, next_difference, IsNext, left_taken, right_taken, Counted, Few, OneMore}
use Rattle.nametable_differences.proofs.RowLaws.{rows_append, count-append, Merged, merged-start, merged-end, report-room, row_room, merged-more}

-- the next row, by the next reader numbers of both tables, which are given
module _ (left : List ℕ) (i : ℕ) (right : List ℕ) (j l r : ℕ) (is : l ≡ next_reader left i) (js : r ≡ next_reader right j)
    (found : Found) where
  pub next-left : l < r → found.reader ≡ l → found.difference ≡ OnlyLeft → found.reader < reader_numbers → IsNext left i right j found
  unfolding next_difference
  next-left h reader difference small = record { reader = omega (arith, reader, is, js); difference = difference ∙ rw (← is, ← js, lt-ltb l r h); small = small }

  pub next-right : r < l → found.reader ≡ r → found.difference ≡ OnlyRight → found.reader < reader_numbers → IsNext left i right j found
  unfolding next_difference
  next-right h reader difference small = record { reader = omega (arith, reader, is, js); difference = difference ∙ rw (← is, ← js, le-ltb l r (omega arith), lt-ltb r l h); small = small }

  pub next_both : r ≤ l → l ≤ r → found.reader ≡ l → found.difference ≡ compared (entry_at left i) (entry_at right j) → found.reader < reader_numbers → IsNext left i right j found
  unfolding next_difference
  next_both h g reader difference small = record { reader = omega (arith, reader, is, js); difference = difference ∙ rw (← is, ← js, le-ltb l r h, le-ltb r l g); small = small }

-- before the entries i and j: the rows of all reader numbers before theirs are counted, and their lines are stored
pub record Turn (left right old out : List ℕ) (counts : Counts) (at i j : ℕ) : Type 0 where
  pub least : ℕ
  pub rows : List Row
  pub merged : Merged left right i j least rows
  pub counted : Counted rows counts
  pub stored : Stored old 0 (row_lines rows) out at

pub turn-none : (left right old : List ℕ) (counts : Counts) → counts.same ≡ 0 → counts.other ≡ 0 → counts.respelled ≡ 0 → counts.left ≡ 0 → counts.right ≡ 0 → Turn left right old old counts 0 0 0
unfolding row_lines how_many
turn-none left right old counts a b c d e = record {
  least = 0;
  rows = [];
  merged = merged-start left right;
  counted = record { same = a; other = b; respelled = c; left = d; right = e };
  stored = stored-none old 0;
}

-- each row takes an entry
pub taken-some : (d : Difference) → 1 ≤ left_taken d + right_taken d
unfolding left_taken right_taken
taken-some Same = omega arith
taken-some OtherText = omega arith
taken-some Respelled = omega arith
taken-some OnlyLeft = omega arith
taken-some OnlyRight = omega arith

-- a table that reads whole has at most 500 entries
pub few-entries : (t : List ℕ) → read_outcome t ≡ done (count_of t) → count_of t ≤ most_entries
few-entries t read = (read_table t _ read).few

module _ {left right old out : List ℕ} {counts : Counts} {at i j : ℕ} (turn : Turn left right old out counts at i j)
    (read_left : read_outcome left ≡ done (count_of left)) (read_right : read_outcome right ≡ done (count_of right)) where
  pub left-few : i ≤ most_entries
  left-few = omega (arith, turn.merged.left_split.inside, few-entries left read_left)

  pub right-few : j ≤ most_entries
  right-few = omega (arith, turn.merged.right_split.inside, few-entries right read_right)

  -- the counts are small
  pub counts-few : Few counts
  counts-few =
      let m = turn.merged in
      let c = turn.counted in
      record {
        same = omega (arith, c.same, m.left_sum, left-few);
        other = omega (arith, c.other, m.left_sum, left-few);
        respelled = omega (arith, c.respelled, m.left_sum, left-few);
        left = omega (arith, c.left, m.left_sum, left-few);
        right = omega (arith, c.right, m.right_sum, right-few);
      }

  -- the next row
  module _ (found : Found) (next : IsNext left i right j found) where
    more : Merged left right (i + left_taken found.difference) (j + right_taken found.difference) (suc found.reader) (turn.rows ++ (row found.reader found.difference ∷ []))
    more = merged-more left right read_left read_right i j _ turn.rows turn.merged found.reader next.reader next.small found.difference next.difference

    pub left-next-few : i + left_taken found.difference ≤ most_entries
    left-next-few = omega (arith, more.left_split.inside, few-entries left read_left)

    pub right-next-few : j + right_taken found.difference ≤ most_entries
    right-next-few = omega (arith, more.right_split.inside, few-entries right read_right)

    -- its line has room
    pub row_fits : report_capacity ≤ length old → at + length (row_line (row found.reader found.difference)) ≤ length out
    row_fits room =
        omega (arith, row_room left right _ _ _ turn.rows _ more (few-entries left read_left) (few-entries right read_right), turn.stored.count, turn.stored.long)

    -- it was counted, and its line stored
    pub turn_more : (counts2 : Counts) → OneMore counts found.difference counts2 → (out2 : List ℕ) (at2 : ℕ) → Stored out at (row_line (row found.reader found.difference)) out2 at2
        → (i2 j2 : ℕ) → i2 ≡ i + left_taken found.difference → j2 ≡ j + right_taken found.difference → Turn left right old out2 counts2 at2 i2 j2
    turn_more counts2 one out2 at2 line i2 j2 is js =
        let c = turn.counted in
        let rs = turn.rows in
        let d = found.difference in
        rw (is, js)
        (record {
          least = suc found.reader;
          rows = rs ++ (row found.reader d ∷ []);
          merged = more;
          counted = record {
            same = omega (arith, one.same, c.same, count-append Same rs found.reader d);
            other = omega (arith, one.other, c.other, count-append OtherText rs found.reader d);
            respelled = omega (arith, one.respelled, c.respelled, count-append Respelled rs found.reader d);
            left = omega (arith, one.left, c.left, count-append OnlyLeft rs found.reader d);
            right = omega (arith, one.right, c.right, count-append OnlyRight rs found.reader d);
          };
          stored = rw (rows_append rs (row found.reader d)) (stored-append turn.stored line);
        })

  -- the line of the counts has room
  abbrev counts_bytes : List ℕ
  counts_bytes = counts_line counts.same counts.other counts.respelled counts.left counts.right

  counts_same : rows_report turn.rows ≡ row_lines turn.rows ++ counts_bytes
  unfolding rows_report
  counts_same = let c = turn.counted in rw (c.same, c.other, c.respelled, c.left, c.right)

  report-fits-old : report_capacity ≤ length old → length (rows_report turn.rows) ≤ length old
  report-fits-old room = omega (arith, report-room left right i j _ turn.rows turn.merged (few-entries left read_left) (few-entries right read_right))

  pub counts-fit : report_capacity ≤ length old → at + length counts_bytes ≤ length out
  counts-fit room =
      omega (arith, report-fits-old room, ap length counts_same, length-append (row_lines turn.rows) counts_bytes, turn.stored.count, turn.stored.long)

  -- no entry is left: the report is whole
  pub turn_end : report_capacity ≤ length old → count_of left + count_of right ≤ i + j → (now : List ℕ) (n : ℕ) → Stored out at counts_bytes now n
      → (n ≡ length (rows_report (rows_of left right))) × (now ≡ rows_report (rows_of left right) ++ drop (length (rows_report (rows_of left right))) old)
  turn_end room end now n line =
      let all = merged-end left right i j _ turn.rows turn.merged end in
      let s = stored-append turn.stored line in
      rw (all, counts_same) (
        omega (arith, s.count),
        s.stores ∙ sets-front (row_lines turn.rows ++ counts_bytes) old (rw (← counts_same) (report-fits-old room)),
      )
