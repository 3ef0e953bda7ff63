-- What a receiver answers is what reading at once answers.
use Prim.Native.Nat.{ℕ}
use mathlib.Core.Path.{◌≡◌, sym, ap, ◌∙◌}
use mathlib.Core.List.{List}
use native.Mathlib.Omega.{arith}
use Rattle.nametable.specs.Answer.{read_outcome}
use Rattle.nametable_facts.proofs.Truncation.{prefix-truncated}
use Rattle.nametable_receiver.specs.Receiving.{State, fresh, received, received_all, joined, verdict_of}
use Rattle.nametable_receiver_facts.proofs.Later.{received-past, refusal-kept-on}
use Rattle.nametable_receiver_facts.proofs.Whole.{received-joined, counted, counted-full, received-whole}
use Rattle.nametable_receiver_facts.proofs.States.{state-settles}
use Rattle.claims.specs.Receiving.{Receiving}

-- a row of chunks from a fresh start
pub as-read-at-once : (chunks : List (List ℕ)) → verdict_of (received_all fresh chunks) ≡ read_outcome (joined chunks)
as-read-at-once chunks = ap verdict_of (received-joined fresh chunks) ∙ received-whole (joined chunks)

pub receiving : Receiving
receiving = record {
  as_read_at_once = as-read-at-once;
  however_cut = λ s chunks others same. received-joined s chunks ∙ ap (received s) same ∙ sym (received-joined s others);
  cut = λ table count k chunks whole short some. as-read-at-once chunks ∙ ap read_outcome some ∙ prefix-truncated table count k whole (omega (arith, short));
  counts = λ chunks few. ap (λ (s : State). s.total) (received-joined fresh chunks) ∙ counted (joined chunks) (omega (arith, few));
  counts_no_further = λ chunks many. ap (λ (s : State). s.total) (received-joined fresh chunks) ∙ counted-full (joined chunks) (omega (arith, many));
  beyond = received-past;
  keeps_refusal = refusal-kept-on;
  settles = state-settles;
}
