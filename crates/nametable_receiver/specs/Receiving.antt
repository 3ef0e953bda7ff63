-- What a receiver holds, what a byte, a chunk and a row of chunks make of it, and its verdict when
-- the table is over.
use Rattle.std.specs.Prelude.{ℕ, suc, ◌-◌, ◌/◌, List, [], ◌∷◌, ◌++◌, ltb, take, set}
use Rattle.basis.specs.Tests.{pick}
use Rattle.basis.specs.Rows.{tabulate}
use Rattle.basis.specs.Outcome.{Outcome, done, and_then}
use Rattle.nametable_format.specs.Format.{header_length, most_entries, entry_length, label_capacity, table_length, reader_of}
use Rattle.nametable.specs.Answer.{table_outcome, entry_judged, size_tests}
use Rattle.nametable_receiver.specs.declared.Receiver.{Receiver}

-- the most bytes that are counted: one more than the longest table has
abbrev pub most_bytes : ℕ
most_bytes = suc (table_length most_entries)

-- the index of the last byte of an entry
abbrev pub last_index : ℕ
last_index = entry_length - 1

-- the state in numbers: the bytes of the header, those of the entry that is being received and how
-- many of them have come, how many bytes have come in all, counted up to 33,504, the least reader
-- number that this entry may have, and the verdict on the entries before it
pub record State : Type 0 where
  pub header : List ℕ
  pub current : List ℕ
  pub filled : ℕ
  pub total : ℕ
  pub least : ℕ
  pub judged : Outcome

-- the state that a receiver holds
abbrev pub state_of : Receiver → State
state_of r = record { header = r.header; current = r.current; filled = r.filled; total = r.total; least = r.least; judged = table_outcome r.judged }

-- a fresh start
unfoldable pub fresh : State
fresh = record { header = tabulate header_length (λ _. 0); current = tabulate entry_length (λ _. 0); filled = 0; total = 0; least = 0; judged = done 0 }

-- the state after a byte of the header
unfoldable pub headed : State → ℕ → State
headed s b = record { header = set s.header s.total b; current = s.current; filled = s.filled; total = suc s.total; least = s.least; judged = s.judged }

-- the state after a byte of an entry that is not its last
unfoldable pub stored : State → ℕ → State
stored s b = record { header = s.header; current = set s.current s.filled b; filled = suc s.filled; total = suc s.total; least = s.least; judged = s.judged }

-- the verdict on the entries so far with one more, which has this verdict and is at an index: the
-- first refusal stays; an entry's is at its index
unfoldable pub judged_with : (so_far entry : Outcome) (index : ℕ) → Outcome
judged_with so_far entry index = and_then (λ p. p) so_far (and_then (λ _. index) entry (done (suc index)))

-- the state after an entry: it is judged, and the next reader number is to be one more at least
unfoldable pub with_entry : State → List ℕ → State
with_entry s e = record {
  header = s.header;
  current = e;
  filled = 0;
  total = suc s.total;
  least = suc (reader_of e);
  judged = judged_with s.judged (entry_judged 1 label_capacity s.least e) ((s.total - header_length) / entry_length);
}

-- the state after the last byte of an entry
unfoldable pub ended : State → ℕ → State
ended s b = with_entry s (set s.current last_index b)

-- the state after a byte: as before, once the most bytes have come; else the byte is one of the header
-- or of an entry
unfoldable pub stepped : State → ℕ → State
stepped s b =
    pick (ltb s.total most_bytes)
    (pick (ltb s.total header_length) (headed s b)
    (pick (ltb s.filled last_index) (stored s b)
    (ended s b)))
    s

-- the state after the bytes of a chunk, one by one
unfoldable pub received : State → List ℕ → State
received s [] = s
received s (b ∷ bs) = received (stepped s b) bs

-- the state after a row of chunks, one by one
unfoldable pub received_all : State → List (List ℕ) → State
received_all s [] = s
received_all s (c ∷ cs) = received_all (received s c) cs

-- the chunks joined in their order
unfoldable pub joined : List (List ℕ) → List ℕ
joined [] = []
joined (c ∷ cs) = c ++ joined cs

-- the verdict if the table is over: the header, by those of its bytes that have come, and the length,
-- as when it is read at once; then what was judged
unfoldable pub verdict_of : State → Outcome
verdict_of s = size_tests (take s.total s.header) s.total s.judged
