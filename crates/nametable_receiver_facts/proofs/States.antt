-- Two receivers that hold the same state are the same.
use Prim.Native.Nat.{ℕ}
use mathlib.Core.Path.{◌≡◌, refl, ap}
use Rattle.std.proofs.Common.{Result, Ok, Err}
use Rattle.basis.specs.Outcome.{number_of, outcome_by}
use Rattle.basis.specs.declared.Refusal.{Refusal}
use Rattle.basis.proofs.Outcome.{done-not-refused, number-tells}
use Rattle.nametable.specs.Answer.{table_outcome}
use Rattle.nametable_receiver.specs.Receiving.{State, state_of}
use Rattle.nametable_receiver.specs.declared.Receiver.{Receiver}

-- the outcome tells the answer
table-tells : (a b : Result ℕ Refusal) → table_outcome a ≡ table_outcome b → a ≡ b
unfolding outcome_by
table-tells (Ok m) (Ok n) e = let q : m ≡ n = cc in ap Ok q
table-tells (Ok m) (Err s) e = absurd (done-not-refused refl e)
table-tells (Err r) (Ok n) e = absurd (done-not-refused e refl)
table-tells (Err r) (Err s) e =
    let code : number_of r.code ≡ number_of s.code = cc in
    let position : r.position ≡ s.position = cc in
    λ i. Err (record { code = number-tells r.code s.code code i; position = position i })

pub state-settles : (r r' : Receiver) → state_of r ≡ state_of r' → r ≡ r'
state-settles r r' e = λ i. record {
  header = (e i).header;
  current = (e i).current;
  filled = (e i).filled;
  total = (e i).total;
  least = (e i).least;
  judged = table-tells r.judged r'.judged (ap (λ (s : State). s.judged) e) i;
}
