-- The causes settle what reading a table and one entry of it answer, and writing a list: each
-- refuses exactly what it must, in order.
use Prim.Native.Nat.{ℕ, zero, suc, ◌+◌, ◌-◌, ◌<◌}
use mathlib.Core.Path.{◌≡◌, ap}
use mathlib.Core.Bool.{true, not}
use mathlib.Core.Logic.{◌↔◌, inl, inr, ⊎_elim}
use mathlib.Core.List.{List, [], ◌∷◌}
use lib.Dec.{eqb}
use lib.ListN.{length, take, drop}
use borrow.Author.Tests.{eqb-false, ne_eqb, not-true}
use native.Mathlib.Omega.{arith}
use Rattle.basis.specs.Tests.{every, within, first_below}
use Rattle.basis.specs.Rows.{at}
use Rattle.basis.specs.Outcome.{Outcome}
use Rattle.basis.specs.Causes.{Cause, moved_all, Settles}
use Rattle.basis.proofs.Tests.{by-lt, true-not-false, ltb_iff, leb-iff, eqb-iff, fails-iff, within-true, within-below, within-above, none-iff, not-each, first-le, first-here}
use Rattle.basis.proofs.Causes.{settle-done, settle-whole, settle-and_then}
use Rattle.basis.proofs.Codec.{encode-settled, decode-settled}
use Rattle.scheme.specs.Naming.{own_number_names, kind_names, is_known}
use Rattle.scheme.specs.Naming as naming
use Rattle.scheme.specs.Coding.{codec_of, label_of}
use Rattle.scheme.proofs.Naming.{names-none-iff}
use Rattle.scheme.proofs.Coding.{faithful}
use Rattle.nametable_format.specs.Format.{header_kind, header_length, most_entries, entry_length, label_capacity, text_capacity, label_start, count_of, table_length, entry_at, kind_of, reader_of, length_of, label_in, is_filled, scheme_in}
use Rattle.nametable.specs.Answer.{header_tests, length_tests, header_outcome, form_tests, entry_judged, entries_judged, read_outcome, text_in, entry_text, found_outcome, find_outcome, entry_read, lone_entry_outcome, judged_entry_outcome}
use Rattle.nametable_write.specs.Writing.{Entry, entry, entries_of, sum_of, list_tests, scheme_of, entry_written, entries_written, write_outcome}
use Rattle.nametable_facts.specs.Causes.{UnknownKind, UnknownScheme, Outside, NotFilled, entry_causes, entries_causes, header_causes, length_causes, table_causes, found_causes, find_causes, lone_entry_causes, judged_entry_causes, entry_write_causes, entries_write_causes, write_causes}

-- the tests that the causes are about
unknown-iff : (e : List ℕ) → (not (is_known (kind_names (kind_of e))) ≡ true) ↔ UnknownKind e
unfolding kind_names
unknown-iff e = names-none-iff naming.kind_of (kind_of e)

pub outside-iff : (low high n : ℕ) → (not (within low high n) ≡ true) ↔ Outside low high n
outside-iff low high n = (
  λ e. by-lt n low inl (λ l. by-lt high n inr (λ h. absurd (true-not-false (within-true low high n l h) (not-true _ e)))),
  ⊎_elim (λ l. ap not (within-below low high n l)) (λ h. ap not (within-above low high n h)),
)

-- not all numbers of a row are 0: one is not
pub some-not : (n : ℕ) (row : ℕ → ℕ) → (not (every n (λ i. eqb (row i) 0)) ≡ true) ↔ ((i : ℕ) × (i < n) × (row i ≡ 0 → ⊥))
some-not n row = (
  λ e. by-lt (first_below n (λ i. not (eqb (row i) 0))) n
      (λ h. (first_below n (λ i. not (eqb (row i) 0)), h, eqb-false _ 0 (not-true _ (first-here n (λ i. not (eqb (row i) 0)) h))))
      (λ h. let g = first-le n (λ i. not (eqb (row i) 0)) in absurd (true-not-false ((none-iff n (λ i. eqb (row i) 0)).0 (omega arith)) (not-true _ e))),
  λ s. ap not (not-each n (λ i. eqb (row i) 0) s.0 s.1 (ne_eqb _ 0 s.2)),
)

unfilled-iff : (room : ℕ) (e : List ℕ) → (not (is_filled room e) ≡ true) ↔ NotFilled room e
unfolding is_filled
unfilled-iff room e = some-not (room - length_of e) (λ i. at e (label_start + length_of e + i))

-- each piece, before what follows it
pub header-settled : (kind : ℕ) (t : List ℕ) {later : List Cause} {count : ℕ} {next : Outcome} → Settles later count next → Settles (header_causes kind t later) count (header_tests kind t next)
unfolding header_tests
header-settled kind t rest =
    settle-whole _ 13 (eqb-iff (length t) 0)
    (λ _. settle-whole _ 14 (fails-iff (eqb (at t 0) kind) (eqb-iff (at t 0) kind))
    (λ _. settle-whole _ 13 (ltb_iff (length t) header_length)
    (λ _. settle-whole _ 14 (outside-iff 1 most_entries (count_of t)) (λ _. rest))))

pub header-alone-settled : (kind : ℕ) (t : List ℕ) → Settles (header_causes kind t []) (count_of t) (header_outcome kind t)
unfolding header_outcome
header-alone-settled kind t = header-settled kind t (settle-done (count_of t))

pub length-settled : (bytes needed : ℕ) {later : List Cause} {count : ℕ} {next : Outcome} → Settles later count next → Settles (length_causes bytes needed later) count (length_tests bytes needed next)
unfolding length_tests
length-settled bytes needed rest = settle-whole _ 13 (ltb_iff bytes needed) (λ _. settle-whole _ 14 (ltb_iff needed bytes) (λ _. rest))

pub entry-settled : (fewest room least : ℕ) (e : List ℕ) → Settles (entry_causes fewest room least e) (reader_of e) (entry_judged fewest room least e)
unfolding entry_judged form_tests
entry-settled fewest room least e =
    let s = scheme_in e in
    settle-whole _ 14 (unknown-iff e)
    (λ _. settle-whole _ 14 (ltb_iff (reader_of e) least)
    (λ _. settle-whole _ 14 (outside-iff fewest room (length_of e))
    (λ _. settle-whole _ 14 (unfilled-iff room e)
    (λ _. settle-and_then (λ _. 0) _ [] _ _ _ _ (decode-settled (codec_of s) (faithful s) text_capacity (label_in e) (omega arith)) (λ _ _. settle-done (reader_of e))))))

entries-settled : (index least left : ℕ) (bytes : List ℕ) (total : ℕ) → Settles (entries_causes index least left bytes) total (entries_judged index least left bytes total)
unfolding entries_causes entries_judged
entries-settled index least zero bytes total = settle-done total
entries-settled index least (suc left) bytes total =
    settle-and_then (λ _. index) (entry_causes 1 label_capacity least (take entry_length bytes)) _ _ total _ _ (entry-settled 1 label_capacity least (take entry_length bytes))
    (λ _ _. entries-settled (suc index) (suc (reader_of bytes)) left (drop entry_length bytes) total)

pub read-settled : (t : List ℕ) → Settles (table_causes t) (count_of t) (read_outcome t)
unfolding read_outcome
read-settled t = header-settled header_kind t (length-settled _ _ (entries-settled 0 0 (count_of t) (drop header_length t) (count_of t)))

-- one entry by index, whatever the table's causes settle
pub found-settled : {table : List Cause} {n : ℕ} {verdict : Outcome} (count index capacity points : ℕ) → Settles table n verdict
    → Settles (found_causes table count index capacity) points (found_outcome verdict count index capacity points)
unfolding found_outcome
found-settled {table} {n} {verdict} count index capacity points settled =
    settle-whole _ 1 (ltb_iff capacity text_capacity)
    (λ _. settle-and_then (λ p. p) table _ n points verdict _ settled
    (λ _ _. settle-whole _ 14 (leb-iff count index) (λ _. settle-done points)))

-- one entry by itself
entry-read-settled : (least position : ℕ) (e : List ℕ)
    → Settles (moved_all (λ _. position) (entry_causes 1 label_capacity least e) []) (length (text_in e)) (entry_read least position e)
unfolding entry_read
entry-read-settled least position e =
    settle-and_then (λ _. position) (entry_causes 1 label_capacity least e) [] _ _ _ _ (entry-settled 1 label_capacity least e) (λ _ _. settle-done (length (text_in e)))

pub lone-entry-settled : (least position capacity : ℕ) (e : List ℕ)
    → Settles (lone_entry_causes least position capacity e) (length (text_in e)) (lone_entry_outcome least position capacity e)
unfolding lone_entry_outcome
lone-entry-settled least position capacity e =
    settle-whole _ 1 (ltb_iff capacity text_capacity) (λ _. length-settled (length e) entry_length (entry-read-settled least position e))

module _ (t : List ℕ) (index capacity : ℕ) where
  pub find-settled : Settles (find_causes t index capacity) (length (entry_text t index)) (find_outcome t index capacity)
  unfolding find_outcome
  find-settled = found-settled (count_of t) index capacity (length (entry_text t index)) (read-settled t)

  pub judged-entry-settled : Settles (judged_entry_causes t index capacity) (length (entry_text t index)) (judged_entry_outcome t index capacity)
  unfolding judged_entry_outcome
  judged-entry-settled =
      settle-whole _ 1 (ltb_iff capacity text_capacity)
      (λ _. settle-whole _ 13 (ltb_iff (length t) header_length)
      (λ _. settle-whole _ 14 (leb-iff (count_of t) index)
      (λ _. settle-whole _ 13 (ltb_iff (length t) (table_length (suc index)))
      (λ _. entry-read-settled 0 index (entry_at t index)))))

-- writing
pub unknown-scheme-iff : (number : ℕ) → (not (is_known (own_number_names number)) ≡ true) ↔ UnknownScheme number
unfolding own_number_names
unknown-scheme-iff number = names-none-iff naming.number_of number

entry-write-settled : (least reader scheme : ℕ) (text : List ℕ)
    → Settles (entry_write_causes least (entry reader scheme text)) (length (label_of (scheme_of scheme) text)) (entry_written least (entry reader scheme text))
unfolding entry_written
entry-write-settled least reader scheme text =
    settle-whole _ 14 (ltb_iff reader least)
    (λ _. settle-whole _ 14 (unknown-scheme-iff scheme)
    (λ _. encode-settled (codec_of (scheme_of scheme)) (faithful (scheme_of scheme)) label_capacity text (omega arith)))

entries-write-settled : (index least : ℕ) (es : List Entry) (total : ℕ) → Settles (entries_write_causes index least es) total (entries_written index least es total)
unfolding entries_write_causes entries_written
entries-write-settled index least [] total = settle-done total
entries-write-settled index least (entry reader scheme text ∷ es) total =
    settle-and_then (λ _. index) (entry_write_causes least (entry reader scheme text)) _ _ total _ _ (entry-write-settled least reader scheme text)
    (λ _ _. entries-write-settled (suc index) _ es total)

pub write-settled : (capacity : ℕ) (readers schemes lengths points : List ℕ)
    → Settles (write_causes capacity readers schemes lengths points) (table_length (length readers)) (write_outcome capacity readers schemes lengths points)
unfolding write_outcome list_tests
write-settled capacity readers schemes lengths points =
    settle-whole _ 1 (ltb_iff capacity (table_length (length readers)))
    (λ _. settle-whole _ 14 (outside-iff 1 most_entries (length readers))
    (λ _. settle-whole _ 14 (fails-iff (eqb (length schemes) (length readers)) (eqb-iff (length schemes) (length readers)))
    (λ _. settle-whole _ 14 (fails-iff (eqb (length lengths) (length readers)) (eqb-iff (length lengths) (length readers)))
    (λ _. settle-whole _ 14 (fails-iff (eqb (sum_of lengths) (length points)) (eqb-iff (sum_of lengths) (length points)))
    (λ _. entries-write-settled 0 0 (entries_of readers schemes lengths points) (table_length (length readers)))))))
