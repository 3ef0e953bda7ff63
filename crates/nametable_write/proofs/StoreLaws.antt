-- Laws on the bytes of entries to be written: zeros, the bytes of one entry, those of all, and the
-- table.
use Prim.Native.Nat.{ℕ, zero, suc, ◌+◌, ◌-◌, ◌*◌, ◌≤◌, ◌<◌}
use mathlib.Core.Path.{◌≡◌, refl, ap, ◌∙◌}
use mathlib.Core.List.{List, [], ◌∷◌, ◌++◌}
use lib.ListN.{length, get_or, take, drop, length-append}
use Rattle.std.specs.Prelude.{replicate}
use Rattle.std.proofs.Common.{Option, Result}
use Rattle.std.specs.Option.{unwrap_or}
use lib.Seq.{sets, length-sets}
use native.Mathlib.Omega.{arith}
use Rattle.basis.specs.Rows.{tabulate}
use Rattle.basis.specs.Outcome.{done, count_of, bytes_outcome, buffer_after}
use Rattle.basis.specs.Codec.{Writable}
use Rattle.basis.specs.declared.ByteCount.{ByteCount}
use Rattle.basis.specs.declared.Refusal.{Refusal}
use Rattle.basis.proofs.Lists.{length-tabulate}
use Rattle.basis.proofs.Outcome.{both-done, passed}
use Rattle.basis.proofs.Parts.{part-is, part-back}
use Rattle.basis.proofs.Stores.{StoringFrom, Stored, storing-piece, storing-end, stored-append, stored-part}
use Rattle.scheme.specs.Naming as naming
use Rattle.scheme.specs.Naming.{own_number_names, scheme_named}
use Rattle.scheme.specs.Coding.{codec_of, encode_outcome, label_of}
use Rattle.scheme.specs.declared.Scheme.{Scheme}
use Rattle.scheme.specs.declared.Scheme.TheVariants.{Lace}
use Rattle.scheme.proofs.Coding.{faithful, writable-text}
use Rattle.nametable_format.proofs.Schemes.{named-or-lace}
use Rattle.nametable_format.specs.Format.{header_kind, header_length, entry_length, label_start, label_capacity, table_length}
use Rattle.nametable_write.specs.Writing.{Entry, entry, scheme_of, entry_written, entries_written, number_bytes, zeros, filled, entry_bytes, entries_bytes, table_of, reader_in}
use Rattle.nametable_write.specs.Internal.{Spelled, AllSpelled}
use Rattle.nametable_write.specs.Tested.{entries_in}
use Rattle.nametable_write.specs.declared.entry_list.EntryList.{EntryList}
use Rattle.nametable_write.proofs.ListLaws.{left, next, nothing_left, left-next, left-count}

-- so many zeros, as `fill` leaves them
pub zeros-replicate : (n : ℕ) → replicate n 0 ≡ zeros n
unfolding zeros tabulate
zeros-replicate zero = refl
zeros-replicate (suc n) = ap (λ (l : List ℕ). 0 ∷ l) (zeros-replicate n)

-- the scheme of a number, as `unwrap_or` with LACE gives it
pub scheme-is : (number : ℕ) {named : Option Scheme} {s : Scheme} → named ≡ own_number_names number → s ≡ unwrap_or named Lace → s ≡ scheme_of number
unfolding scheme_of
scheme-is number {named} names is = is ∙ named-or-lace named ∙ ap scheme_named names

length-zeros : (n : ℕ) → length (zeros n) ≡ n
unfolding zeros
length-zeros n = length-tabulate n (λ _. 0)

drop-zeros : (n m : ℕ) → drop n (zeros m) ≡ zeros (m - n)
unfolding zeros tabulate
drop-zeros zero m = let e : m - 0 ≡ m = omega arith in rw e
drop-zeros (suc n) zero = let e : 0 - suc n ≡ 0 = omega arith in rw e
drop-zeros (suc n) (suc m) = let e : suc m - suc n ≡ m - n = omega arith in rw e (drop-zeros n m)

front-zeros : take label_start (zeros entry_length) ≡ 0 ∷ 0 ∷ 0 ∷ 0 ∷ []
unfolding zeros tabulate
front-zeros = refl

-- an entry whose label may be written
module _ (reader scheme : ℕ) (text : List ℕ) (spelled : Spelled (entry reader scheme text)) where
  abbrev label : List ℕ
  label = label_of (scheme_of scheme) text

  pub label-writable : Writable (codec_of (scheme_of scheme)) text
  label-writable = ((((faithful (scheme_of scheme)).encoding label_capacity text).succeeds spelled.0).0 spelled.1).0.1

  label-done : encode_outcome (scheme_of scheme) label_capacity text ≡ done (length label)
  label-done = spelled.1 ∙ ap done ((((faithful (scheme_of scheme)).encoding label_capacity text).succeeds spelled.0).0 spelled.1).1

  pub label-short : length label ≤ label_capacity
  label-short = (writable-text (scheme_of scheme) text label-writable).short

  filled-long : length (filled label) ≡ label_capacity
  unfolding filled
  filled-long = omega (arith, label-short, length-append label (zeros (63 - length label)), length-zeros (63 - length label))

  pub entry-long : length (entry_bytes (entry reader scheme text)) ≡ entry_length
  unfolding entry_bytes number_bytes
  entry-long = omega (arith, filled-long)

  -- its buffer, after it was cleared and its label was encoded into its room
  module _ (old cleared part : List ℕ) {s : Scheme} (long : length old ≡ entry_length) (is : s ≡ scheme_of scheme) (clears : cleared ≡ zeros (length old)) (answer : Result ByteCount Refusal)
      (answers : bytes_outcome answer ≡ encode_outcome s (length (take (length cleared - label_start) (drop label_start cleared))) text)
      (encodes : part ≡ buffer_after (encode_outcome s (length (take (length cleared - label_start) (drop label_start cleared))) text) (label_of s text) (take (length cleared - label_start) (drop label_start cleared))) where
    cleared-is : cleared ≡ zeros entry_length
    cleared-is = clears ∙ ap zeros long

    room-is : take (length cleared - label_start) (drop label_start cleared) ≡ zeros label_capacity
    room-is = part-is label_start cleared ∙ ap (drop label_start) cleared-is ∙ drop-zeros label_start entry_length

    part_filled : part ≡ filled label
    unfolding filled buffer_after
    part_filled = encodes ∙ rw (room-is, length-zeros label_capacity, is, label-done, drop-zeros (length label) label_capacity)

    whole_is : take label_start cleared ++ (part ++ drop (length cleared - label_start) (drop label_start cleared)) ≡ 0 ∷ 0 ∷ 0 ∷ 0 ∷ filled label
    whole_is = part-back label_start cleared part ∙ rw (cleared-is, front-zeros, part_filled)

    pub form-fits : label_start ≤ length (take label_start cleared ++ (part ++ drop (length cleared - label_start) (drop label_start cleared)))
    form-fits = rw whole_is (omega arith)

    pub count-is : {n : ℕ} → n ≡ count_of (bytes_outcome answer) → n ≡ length label
    unfolding count_of
    count-is e = e ∙ rw (answers, room-is, length-zeros label_capacity, is, label-done)

    pub entry-stored : {kind n : ℕ} {now : List ℕ} → kind ≡ naming.kind_of s → n ≡ count_of (bytes_outcome answer)
        → now ≡ sets (take label_start cleared ++ (part ++ drop (length cleared - label_start) (drop label_start cleared))) 0 ((kind ∷ number_bytes reader) ++ (n ∷ []))
        → now ≡ entry_bytes (entry reader scheme text)
    unfolding entry_bytes number_bytes
    entry-stored k e m = m ∙ rw (whole_is, k, is, count-is e)

-- the bytes of the entries and of the table, by their number
entries-long : (es : List Entry) → AllSpelled es → length (entries_bytes es) ≡ entry_length * length es
unfolding entries_bytes
entries-long [] s = refl
entries-long (entry reader scheme text ∷ es) s =
    omega (arith, length-append (entry_bytes (entry reader scheme text)) (entries_bytes es), entry-long reader scheme text s.0, entries-long es s.1)

pub table-long : (es : List Entry) → AllSpelled es → length (table_of es) ≡ table_length (length es)
unfolding table_of number_bytes
table-long es s = omega (arith, entries-long es s)

-- entries that are judged good: each label may be written, and the answer is the total
pub all-spelled : (index least : ℕ) (es : List Entry) (total : ℕ) {n : ℕ} → entries_written index least es total ≡ done n → AllSpelled es
unfolding entries_written entry_written
all-spelled index least [] total e = tt
all-spelled index least (entry reader scheme text ∷ es) total e =
    let b = both-done _ _ _ e in
    ((b.0.0, (passed _ _ _ _ _ (passed _ _ _ _ _ b.0.1).1).1), all-spelled (suc index) (suc (reader_in (entry reader scheme text))) es total b.1)

pub written-total : (index least : ℕ) (es : List Entry) (total : ℕ) {n : ℕ} → entries_written index least es total ≡ done n → n ≡ total
unfolding entries_written
written-total index least [] total e = cc
written-total index least (x ∷ es) total e = written-total (suc index) (suc (reader_in x)) es total (both-done _ _ _ e).1

-- the entries stored one by one: a turn, at the entry at index i, and the end
module _ (list : EntryList) (old : List ℕ) where
  abbrev pub Putting : (table : List ℕ) (at i start : ℕ) → Type 0
  Putting table at i start = StoringFrom header_length old (entries_bytes (entries_in list)) table at (entries_bytes (left list i start))

  module _ (table : List ℕ) (at i start : ℕ) (more : i < length list.readers.now) where
    pub spelled-next : AllSpelled (left list i start) → Spelled (next list i start) × AllSpelled (left list (i + 1) (start + get_or list.lengths.now i 0))
    spelled-next s = rw (left-next list i start more) at s

    pub put-turn : Putting table at i start → Spelled (next list i start) → at + entry_length ≤ length table → (piece : List ℕ) → piece ≡ entry_bytes (next list i start)
        → Putting (take at table ++ (piece ++ drop (at + entry_length - at) (drop at table))) (at + entry_length) (i + 1) (start + get_or list.lengths.now i 0)
    unfolding entries_bytes
    put-turn s spelled fits piece is =
        let long : length piece ≡ entry_length = ap length is ∙ entry-long _ _ _ spelled in
        let splits : entries_bytes (left list i start) ≡ piece ++ entries_bytes (left list (i + 1) (start + get_or list.lengths.now i 0))
        = rw is (ap entries_bytes (left-next list i start more)) in
        storing-piece s splits (stored-part table piece at (at + entry_length) (omega arith) fits)

  pub put-end : (table : List ℕ) (at i start : ℕ) → at ≡ table_length (length list.readers.now) → length list.readers.now ≤ i → Putting table at i start
      → Stored old header_length (entries_bytes (entries_in list)) table (table_length (length list.readers.now))
  unfolding entries_bytes
  put-end table at i start is h s = rw is at (storing-end s (rw (nothing_left list i start h)))

  -- the header before them
  pub table-stored : {headed now : List ℕ} {end : ℕ} → headed ≡ sets old 0 (header_kind ∷ number_bytes (length list.readers.now))
      → Stored headed header_length (entries_bytes (entries_in list)) now end → Stored old 0 (table_of (entries_in list)) now end
  unfolding table_of number_bytes
  table-stored {headed} is s =
      let header : Stored old 0 (header_kind ∷ number_bytes (length list.readers.now)) headed header_length
      = record { stores = is; count = refl; long = ap length is ∙ length-sets old 0 (header_kind ∷ number_bytes (length list.readers.now)) } in
      rw (left-count list) (stored-append header s)
