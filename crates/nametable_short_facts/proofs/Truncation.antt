-- Each proper prefix of a short table that reads whole is refused with 13.
use Prim.Native.Nat.{ℕ, zero, suc, ◌+◌, ◌-◌, ◌≤◌, ◌<◌}
use mathlib.Core.Path.{◌≡◌, ap, ◌∙◌}
use mathlib.Core.List.{List, ◌++◌}
use lib.ListN.{length, take, drop, length-drop}
use lib.Seq.{length-take-le, get_or-take, take-add, drop_at}
use borrow.Author.Tests.{ltb-false}
use native.Mathlib.Omega.{arith}
use Rattle.basis.specs.Outcome.{done, refused}
use Rattle.basis.proofs.Tests.{by-lt}
use Rattle.basis.proofs.Outcome.{stop-equal, pass-equal, stop-below, passed}
use Rattle.nametable_format.specs.Format.{header_length, text_capacity, kind_of, reader_of}
use Rattle.nametable.proofs.TableLaws.{found-refused}
use Rattle.nametable_facts.proofs.Truncation.{count-prefix, header-truncated}
use Rattle.nametable_short_format.specs.Format.{short_header_kind, room_of, short_length, first_entry, after_first}
use Rattle.nametable_short.specs.Answer.{whole_tests, short_entries_judged, short_read_outcome, short_find_outcome}
use Rattle.nametable_short_read.proofs.TableLaws.{GoodFrom, first_good, short-read-table, short-entries-read}
use Rattle.nametable_short_facts.proofs.FirstEntry.{entry-taken, entry-put}

-- a prefix of a list, parted at an index within it
take-parted : (m k : ℕ) (l : List ℕ) → m ≤ k → take k l ≡ take m l ++ take (k - m) (drop m l)
take-parted m k l h = let d : m + (k - m) ≡ k = omega arith in rw d at (take-add m (k - m) l)

-- bytes that begin with a good entry, cut within it, and after it
module _ (bytes : List ℕ) (k : ℕ) where
  cut-within : (index least left total : ℕ) → GoodFrom least bytes → k < short_length (kind_of bytes) → short_entries_judged index least (suc left) (take k bytes) total ≡ refused 13 0
  unfolding short_entries_judged whole_tests kind_of
  cut-within index least left total g cut =
      let size : length (take k bytes) ≡ k = length-take-le k bytes (omega (arith, g.whole)) in
      by-lt 0 k
      (λ some.
      let kind : kind_of (take k bytes) ≡ kind_of bytes = get_or-take k bytes 0 0 some in
      pass-equal 13 0 _ (length (take k bytes)) 0 (λ z. omega arith) ∙ pass-equal 14 index _ (room_of (kind_of (take k bytes))) 0 (λ z. omega (arith, g.known, ap room_of kind))
      ∙ stop-below 13 0 _ (length (take k bytes)) (short_length (kind_of (take k bytes))) (rw (size, kind) cut))
      (λ none. stop-equal 13 0 _ (length (take k bytes)) 0 (omega arith))

  cut-after : short_length (kind_of bytes) ≤ k → take k bytes ≡ first_entry bytes ++ take (k - short_length (kind_of bytes)) (after_first bytes)
  unfolding first_entry after_first
  cut-after far = take-parted (short_length (kind_of bytes)) k bytes far

-- entries that are judged good, cut anywhere
cut-entries : (index least left : ℕ) (bytes : List ℕ) (total : ℕ) {n : ℕ} → short_entries_judged index least left bytes total ≡ done n
    → (k : ℕ) → k < length bytes → short_entries_judged index least left (take k bytes) total ≡ refused 13 0
unfolding short_entries_judged after_first
cut-entries index least zero bytes total e k h = absurd (omega (arith, ltb-false 0 (length bytes) (passed _ _ _ _ _ e).0))
cut-entries index least (suc left) bytes total e k h =
    let b = entry-taken index least left total bytes e in
    let size = short_length (kind_of bytes) in
    by-lt k size
    (λ cut. cut-within bytes k index least left total (first_good index least left bytes total e).0 cut)
    (λ far. rw (cut-after bytes k far) (entry-put index least left total (first_entry bytes) (take (k - size) (after_first bytes)) b.0
    ∙ cut-entries (suc index) (suc (reader_of (first_entry bytes))) left (after_first bytes) total b.1 (k - size) (omega (arith, length-drop size bytes))))

pub short-prefix-truncated : (t : List ℕ) (n k : ℕ) → short_read_outcome t ≡ done n → k < length t → short_read_outcome (take k t) ≡ refused 13 0
unfolding short_read_outcome
short-prefix-truncated t n k e h =
    let w = short-read-table t n e in
    header-truncated short_header_kind t k _ w.header h
    (λ whole.
    let rest : drop header_length (take k t) ≡ take (k - 3) (drop header_length t)
    = ap (drop 3) (take-parted 3 k t whole) ∙ drop_at (take 3 t) (take (k - 3) (drop 3 t)) 3 (length-take-le 3 t w.header.long) in
    rw (count-prefix t k whole, ← w.counted, rest)
    (cut-entries 0 0 n (drop header_length t) n (short-entries-read t n e) (k - 3) (omega (arith, length-drop header_length t))))

pub short-prefix-not-found : (t : List ℕ) (n k : ℕ) → short_read_outcome t ≡ done n → k < length t
    → (index capacity : ℕ) → text_capacity ≤ capacity → short_find_outcome (take k t) index capacity ≡ refused 13 0
unfolding short_find_outcome
short-prefix-not-found t n k e h index capacity room = found-refused _ _ _ _ _ room (short-prefix-truncated t n k e h)
