-- A receiver that took a table in chunks answers what reading the chunks joined answers, however the table was cut.
use Rattle.std.specs.Prelude.{ℕ, ◌≤◌, ◌<◌, ◌≡◌, List, length, take}
use Rattle.basis.specs.Outcome.{done, refused}
use Rattle.nametable.specs.Answer.{read_outcome}
use Rattle.nametable_receiver.specs.declared.Receiver.{Receiver}
use Rattle.nametable_receiver.specs.Receiving.{State, state_of, fresh, received, received_all, joined, verdict_of}

pub record Receiving : Type 0 where
  -- from a fresh start, for every row of chunks: code, position and number of entries are those of reading them joined at once
  pub as_read_at_once : (chunks : List (List ℕ)) → verdict_of (received_all fresh chunks) ≡ read_outcome (joined chunks)
  -- from any state on, the state afterwards depends on the bytes joined, and not on how they were cut
  pub however_cut : (s : State) (chunks others : List (List ℕ)) → joined chunks ≡ joined others → received_all s chunks ≡ received_all s others
  -- a whole table of which not all bytes came is refused as cut, however they came
  pub cut : (table : List ℕ) (count k : ℕ) (chunks : List (List ℕ)) → read_outcome table ≡ done count → k < length table → joined chunks ≡ take k table
      → verdict_of (received_all fresh chunks) ≡ refused 13 0
  -- from a fresh start `total` counts the bytes, up to 33,504
  pub counts : (chunks : List (List ℕ)) → length (joined chunks) ≤ 33504 → (received_all fresh chunks).total ≡ length (joined chunks)
  pub counts_no_further : (chunks : List (List ℕ)) → 33504 ≤ length (joined chunks) → (received_all fresh chunks).total ≡ 33504
  -- beyond that a byte changes nothing, whatever the state
  pub beyond : (s : State) (chunk : List ℕ) → 33504 ≤ s.total → received s chunk ≡ s
  -- a refusal of an entry is kept, whatever comes after it
  pub keeps_refusal : (s : State) (chunk : List ℕ) (number position : ℕ) → s.judged ≡ refused number position → (received s chunk).judged ≡ refused number position
  -- two receivers that hold the same state are the same: the contracts settle every field
  pub settles : (r r' : Receiver) → state_of r ≡ state_of r' → r ≡ r'
