-- A table of either form, judged and left in the long one.
use Prim.Native.Nat.{ℕ, ◌≤◌}
use mathlib.Core.Path.{◌≡◌, refl, sym, ap, ◌∙◌}
use mathlib.Core.Bool.{true, false}
use mathlib.Core.List.{List, ◌++◌}
use lib.ListN.{length, take, drop}
use lib.Seq.{take_all}
use native.Mathlib.Omega.{arith}
use Rattle.basis.specs.Outcome.{Outcome, done, refused, and_then, buffer_after}
use Rattle.basis.proofs.Outcome.{pass_below, both-done, done-count, done-not-refused, values-fit, values-long, values-are}
use Rattle.basis.proofs.Tests.{cases}
use Rattle.nametable_format.specs.Format.{most_entries, count_of, table_length}
use Rattle.nametable.specs.Answer.{read_outcome}
use Rattle.nametable.proofs.TableLaws.{read_table}
use Rattle.report.specs.Lines.{left_word, right_word, side_refused_line}
use Rattle.nametable_short.specs.Answer.{short_read_outcome, to_long, move_outcome, to_long_outcome}
use Rattle.nametable_short_read.proofs.TableLaws.{short-read-table}
use Rattle.nametable_short_facts.proofs.Moved.{long-table-size, long-reads}
use Rattle.nametable_differences.specs.Differences.{is_short, verdict_of, in_long_form, rows_of}
use Rattle.nametable_differences.specs.Report.{rows_report, report_after, report_of}
use Rattle.nametable_differences.specs.Internal.{long_form_outcome}

-- a refusal that is not by what follows
own-refusal : (o last : Outcome) {count number position : ℕ} → last ≡ done count → and_then (λ p. p) o last ≡ refused number position → o ≡ refused number position
unfolding and_then
own-refusal (done n) last l e = absurd (done-not-refused l e)
own-refusal (refused k p) last l e = e

module _ (t : List ℕ) where
  -- a table of the long form is left as it is
  module _ (long : is_short t ≡ false) where
    pub as-it-is : in_long_form t ≡ t
    unfolding in_long_form
    as-it-is = rw long

    pub copied : (old : List ℕ) (n : ℕ) → n ≡ length t → take (length t) t ++ drop (length t) old ≡ in_long_form t ++ drop n old
    copied old n e = rw (as-it-is, e, take_all (length t) t (omega arith))

    pub long-refused : {number position : ℕ} → read_outcome t ≡ refused number position → long_form_outcome t ≡ refused number position
    unfolding long_form_outcome verdict_of and_then
    long-refused e = rw (long, e)

    pub long-done : {n : ℕ} → read_outcome t ≡ done n → long_form_outcome t ≡ done (length t)
    unfolding long_form_outcome verdict_of and_then
    long-done e = rw (as-it-is, long, e)

  -- one of the short form is moved, for which there is room
  module _ (short : is_short t ≡ true) where
    pub moved-form : in_long_form t ≡ to_long t
    unfolding in_long_form
    moved-form = rw short

    pub moved-outcome : (capacity : ℕ) → table_length most_entries ≤ capacity → long_form_outcome t ≡ to_long_outcome t capacity
    unfolding long_form_outcome verdict_of to_long_outcome move_outcome and_then
    moved-outcome capacity room = rw (moved-form, short) (by-verdict (short_read_outcome t) refl)
      where
        by-verdict : (o : Outcome) → short_read_outcome t ≡ o
            → and_then (λ p. p) o (done (length (to_long t))) ≡ move_outcome o (length (to_long t)) capacity
        by-verdict (refused number position) e = refl
        by-verdict (done n) e =
            let fits : length (to_long t) ≤ capacity = omega (arith, long-table-size t n e, (short-read-table t n e).header.few, (short-read-table t n e).counted) in
            sym (pass_below 1 0 (done (length (to_long t))) capacity (length (to_long t)) fits)

  -- a table that reads whole does so in the long form
  pub whole-form : {n : ℕ} → verdict_of t ≡ done n → read_outcome (in_long_form t) ≡ done n
  unfolding verdict_of in_long_form
  whole-form {n} e = cases (is_short t) (λ s. rw s (long-reads t n (rw s at e))) (λ s. rw s (rw s at e))

  -- and what was answered for it says so
  done-verdict : {n : ℕ} → long_form_outcome t ≡ done n → (m : ℕ) × (verdict_of t ≡ done m)
  unfolding long_form_outcome
  done-verdict e = (both-done _ _ _ e).0

  pub done-form : {n : ℕ} → long_form_outcome t ≡ done n → (n ≡ length (in_long_form t)) × (read_outcome (in_long_form t) ≡ done (count_of (in_long_form t)))
  unfolding long_form_outcome
  done-form e =
      let b = both-done _ _ _ e in
      let whole = whole-form b.0.1 in
      (sym (done-count refl b.1), whole ∙ ap done (read_table (in_long_form t) _ whole).counted)

  -- and what was refused of it
  pub refused-form : {number position : ℕ} → long_form_outcome t ≡ refused number position → verdict_of t ≡ refused number position
  unfolding long_form_outcome
  refused-form e = own-refusal (verdict_of t) (done (length (in_long_form t))) refl e

-- a table that was left in the long form, in front of a buffer
module _ (t old now : List ℕ) {n : ℕ} (is : long_form_outcome t ≡ done n) (left : now ≡ buffer_after (long_form_outcome t) (in_long_form t) old) where
  pub form-fits : n ≤ length now
  form-fits = values-fit _ _ _ _ _ is (done-form t is).0 left

  pub form-long : n ≡ length (take n now)
  form-long = values-long _ _ _ _ _ is (done-form t is).0 left

  pub form-is : take n now ≡ in_long_form t
  form-is = values-are _ _ _ _ _ is (done-form t is).0 left

  pub form-reads : read_outcome (take n now) ≡ done (count_of (take n now))
  form-reads = rw form-is (done-form t is).1

-- the report, by what was answered for both tables
module _ (left right : List ℕ) where
  pub left-reported : {number position : ℕ} → long_form_outcome left ≡ refused number position → report_of left right ≡ side_refused_line left_word number position
  unfolding report_of report_after
  left-reported e = rw (refused-form left e)

  module _ {m : ℕ} (l : long_form_outcome left ≡ done m) where
    pub right-reported : {number position : ℕ} → long_form_outcome right ≡ refused number position → report_of left right ≡ side_refused_line right_word number position
    unfolding report_of report_after
    right-reported e = rw ((done-verdict left l).1, refused-form right e)

    pub rows-reported : {n : ℕ} → long_form_outcome right ≡ done n → report_of left right ≡ rows_report (rows_of (in_long_form left) (in_long_form right))
    unfolding report_of report_after
    rows-reported r = rw ((done-verdict left l).1, (done-verdict right r).1)
