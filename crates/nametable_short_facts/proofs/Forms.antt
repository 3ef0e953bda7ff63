-- One entry in the other form and back: it is the same, and its verdict is.
use Prim.Native.Nat.{ℕ, zero, suc, ◌+◌, ◌-◌, ◌≤◌, ◌<◌}
use mathlib.Core.Path.{◌≡◌, refl, sym, ap, ◌∙◌}
use mathlib.Core.List.{List, [], ◌∷◌, ◌++◌}
use lib.Dec.{eqb}
use lib.ListN.{length, take, drop, length-drop}
use lib.Seq.{get_or-drop, ext_get_or}
use borrow.Author.Tests.{eqb-true, eqb-false}
use native.Mathlib.Nat.{le_of_suc-le-suc}
use native.Mathlib.Omega.{arith}
use Rattle.std.proofs.Common.{Option, Some, None}
use Rattle.basis.specs.Rows.{at, tabulate}
use Rattle.basis.specs.Outcome.{done}
use Rattle.basis.proofs.Tests.{cases, by-lt, at_each}
use Rattle.basis.proofs.Lists.{at-past, length-tabulate, at-tabulate}
use Rattle.basis.proofs.Outcome.{done-not-refused}
use Rattle.scheme.specs.Naming.{own_number_names, kind_names, first_with, schemes}
use Rattle.scheme.specs.Naming as naming
use Rattle.scheme.specs.declared.Scheme.{Scheme}
use Rattle.scheme.proofs.Naming.{number-names, kind-names, kind-back, number-back}
use Rattle.nametable_format.specs.Format.{entry_length, label_capacity, label_start, number_at, kind_of, reader_of, length_of, label_in, is_filled, scheme_in}
use Rattle.nametable.specs.Answer.{entry_judged}
use Rattle.nametable_facts.proofs.Rewritten.{Read, judged-read}
use Rattle.nametable_short_format.specs.Format.{scheme_start, short_length_start, short_label_start, room_of, kind_for, short_length, fitted, kind_named, long_of, short_of}
use Rattle.nametable_short.specs.Answer.{short_entry_judged}
use Rattle.nametable_short_format.proofs.EntryLaws.{room_small, kind-room, kind-some, long-length, short-size}
use Rattle.nametable_short_read.proofs.VerdictLaws.{other-kind-judged, long-judged}
use Rattle.nametable_short_facts.specs.Causes.{short_label_in}
use Rattle.nametable_short_facts.proofs.FirstEntry.{WholeEntry}

-- a list is its first elements and the rest
pub heads : (k : ℕ) (l : List ℕ) → k ≤ length l → tabulate k (at l) ++ drop k l ≡ l
unfolding tabulate
heads zero l h = refl
heads (suc k) [] h = absurd (omega arith)
heads (suc k) (x ∷ l) h = ap (λ (r : List ℕ). x ∷ r) (heads k l (omega arith))

-- a row that is fitted into more room or less, and back, where what that leaves out is zero
refitted : (n m : ℕ) (l : List ℕ) → length l ≡ n → ((i : ℕ) → m ≤ i → i < n → at l i ≡ 0) → fitted n (fitted m l) ≡ l
unfolding fitted
refitted n m l long none =
    ext_get_or 0 (tabulate n (at (tabulate m (at l)))) l (length-tabulate n (at (tabulate m (at l))) ∙ sym long)
    (λ i h.
    let inside : i < n = rw (length-tabulate n (at (tabulate m (at l)))) at h in
    at-tabulate n (at (tabulate m (at l))) i inside
    ∙ by-lt i m (at-tabulate m (at l) i) (λ g. at-past (tabulate m (at l)) i (rw (length-tabulate m (at l)) g) ∙ sym (none i g inside)))

-- an entry in the short form is as long as its kind says, and has the same reader number
module _ (e : List ℕ) where
  pub short-long : length (short_of e) ≡ short_length (kind_of (short_of e))
  unfolding short_of kind_of
  short-long = short-size e

  pub short-reader : reader_of (short_of e) ≡ reader_of e
  unfolding reader_of number_at short_of
  short-reader = refl

-- a long entry that is judged good
module _ (least : ℕ) (e : List ℕ) (long : length e ≡ entry_length) {n : ℕ} (judged : entry_judged 1 label_capacity least e ≡ done n) where
  read : Read least e
  read = judged-read least e judged

  rest-zero : (i : ℕ) → room_of (kind_for (length_of e)) ≤ i → i < label_capacity → at (drop label_start e) i ≡ 0
  unfolding is_filled
  rest-zero i past inside =
      let room = kind-room (length_of e) read.short in
      let k : label_start + length_of e + (i - length_of e) ≡ label_start + i = omega arith in
      get_or-drop label_start e i 0
      ∙ rw (← k) (eqb-true _ 0 (at_each (label_capacity - length_of e) (λ j. eqb (at e (label_start + length_of e + j)) 0) read.fills (i - length_of e) (omega arith)))

  kind-again : kind_named (own_number_names (naming.number_of (scheme_in e))) ≡ at e 0
  unfolding kind_named scheme_in kind_of
  kind-again = rw (number-names (scheme_in e)) (kind-back (at e 0) read.known)

  pub long-again : long_of (short_of e) ≡ e
  unfolding long_of short_of length_of tabulate
  long-again =
      let size : length (drop label_start e) ≡ label_capacity = length-drop label_start e ∙ omega arith in
      rw (kind-again, refitted label_capacity (room_of (kind_for (at e 3))) (drop label_start e) size rest-zero) (heads 4 e (omega arith))

  pub short-good : short_entry_judged least (short_of e) ≡ done n
  unfolding short_of kind_of
  short-good = long-judged least (short_of e) refl (short-long e) ∙ ap (entry_judged 1 label_capacity least) long-again ∙ judged

  pub short-whole : WholeEntry least (short_of e)
  unfolding kind_of short_of
  short-whole = record { known = omega (arith, kind-some (length_of e)); long = short-long e; judged = (n, short-good) }

-- what is fitted begins as the row does
take-fitted : (m n : ℕ) (bytes : List ℕ) → m ≤ n → m ≤ length bytes → take m (fitted n bytes) ≡ take m bytes
unfolding fitted tabulate
take-fitted zero n bytes h g = refl
take-fitted (suc m) zero bytes h g = absurd (omega arith)
take-fitted (suc m) (suc n) [] h g = absurd (omega arith)
take-fitted (suc m) (suc n) (b ∷ bytes) h g = ap (λ (l : List ℕ). b ∷ l) (take-fitted m n bytes (le_of_suc-le-suc h) (le_of_suc-le-suc g))

-- the label of the long entry that a short one stands for
pub long-entry-label : (e : List ℕ) → length e ≡ short_length (kind_of e) → at e short_length_start ≤ room_of (kind_of e) → label_in (long_of e) ≡ short_label_in e
unfolding label_in length_of long_of short_length
long-entry-label e long h =
    take-fitted (at e short_length_start) label_capacity (drop short_label_start e) (omega (arith, room_small (kind_of e))) (omega (arith, length-drop short_label_start e))

-- the kind for what is named names the same
pub kind-named : (named : Option Scheme) → kind_names (kind_named named) ≡ named
unfolding kind_names kind_named first_with schemes naming.kind_of naming.row_of
kind-named (Some scheme) = kind-names scheme
kind-named None = refl

-- a short entry that is judged good
module _ (least : ℕ) (e : List ℕ) (long : length e ≡ short_length (kind_of e)) {n : ℕ} (judged : short_entry_judged least e ≡ done n) where
  kind-needed : kind_for (at e short_length_start) ≡ kind_of e
  kind-needed =
      cases (eqb (kind_for (at e short_length_start)) (kind_of e)) (eqb-true _ _)
      (λ other. absurd (done-not-refused judged (other-kind-judged least e (eqb-false _ _ other))))

  pub long-good : entry_judged 1 label_capacity least (long_of e) ≡ done n
  long-good = sym (long-judged least e kind-needed long) ∙ judged

  pub number-again : naming.number_of (scheme_in (long_of e)) ≡ at e scheme_start
  unfolding scheme_in kind_of long_of
  number-again =
      let named : kind_names (kind_of (long_of e)) ≡ own_number_names (at e scheme_start) = kind-named (own_number_names (at e scheme_start)) in
      rw named (number-back (at e scheme_start) (rw named at (judged-read least (long_of e) long-good).known))

  pub own-label-bytes : label_in (long_of e) ≡ short_label_in e
  own-label-bytes =
      let short : at e short_length_start ≤ label_capacity = rw (long-length e) at (judged-read least (long_of e) long-good).short in
      long-entry-label e long (rw kind-needed at (kind-room (at e short_length_start) short))

  pub short-again : short_of (long_of e) ≡ e
  unfolding short_of long_of length_of kind_of short_length tabulate
  short-again =
      let size : length (drop short_label_start e) ≡ room_of (kind_of e) = length-drop short_label_start e ∙ omega (arith, long) in
      let small = room_small (kind_of e) in
      rw (number-again, kind-needed, refitted (room_of (kind_of e)) label_capacity (drop short_label_start e) size (λ i past inside. absurd (omega arith))) (heads 5 e (omega (arith, long)))
