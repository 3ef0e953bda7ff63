-- A table that was received in chunks answers as the table read at once, however it was cut.
use Prim.Native.Nat.{ℕ, ◌≤◌}
use mathlib.Core.Path.{◌≡◌, refl, sym, ◌∙◌}
use mathlib.Core.List.{List, [], ◌∷◌}
use lib.ListN.{length, take, drop}
use lib.Seq.{take_all}
use native.Mathlib.Omega.{arith}
use Rattle.basis.specs.Rows.{tabulate}
use Rattle.basis.proofs.Tests.{by-lt}
use Rattle.nametable_format.specs.Format.{header_kind, header_length, most_entries, count_of, table_length}
use Rattle.nametable.specs.Answer.{entries_judged, read_outcome}
use Rattle.nametable_facts.proofs.Truncation.{count-prefix}
use Rattle.nametable_facts.proofs.SizeLaws.{header-front, header-same, length-same}
use Rattle.nametable_receiver.specs.Receiving.{State, most_bytes, fresh, headed, stepped, received, received_all, joined, verdict_of}
use Rattle.nametable_receiver_facts.proofs.Later.{received-counts, received-full, received-keeps-header}
use Rattle.nametable_receiver_facts.proofs.Entries.{received-append, all-entries}

pub received-joined : (s : State) (chunks : List (List ℕ)) → received_all s chunks ≡ received s (joined chunks)
unfolding received_all received joined
received-joined s [] = refl
received-joined s (c ∷ cs) = received-joined (received s c) cs ∙ sym (received-append s c (joined cs))

-- from a fresh start the bytes are counted, up to the most
pub counted : (t : List ℕ) → length t ≤ most_bytes → (received fresh t).total ≡ length t
unfolding fresh
counted t h = received-counts fresh t (omega arith) ∙ omega arith

pub counted-full : (t : List ℕ) → most_bytes ≤ length t → (received fresh t).total ≡ most_bytes
unfolding fresh
counted-full t h = received-full fresh t (omega arith) (omega arith)

-- of the header a receiver holds, from a fresh start on, the first three bytes of all
header-received : (t : List ℕ) → take (received fresh t).total (received fresh t).header ≡ take header_length t
unfolding received stepped headed fresh tabulate
header-received [] = refl
header-received (a ∷ []) = refl
header-received (a ∷ b ∷ []) = refl
header-received (a ∷ b ∷ c ∷ rest) =
    let kept = received-keeps-header (received fresh (a ∷ b ∷ c ∷ [])) rest (omega arith) in
    rw kept.1 (take_all _ (a ∷ b ∷ c ∷ []) kept.0)

-- and its verdict on the entries of a table of the right length is that of reading them at once
entries-received : (t : List ℕ) (n : ℕ) → length t ≡ table_length n → n ≤ most_entries → (received fresh t).judged ≡ entries_judged 0 0 n (drop header_length t) n
unfolding received stepped headed fresh tabulate
entries-received [] n long few = absurd (omega arith)
entries-received (a ∷ []) n long few = absurd (omega arith)
entries-received (a ∷ b ∷ []) n long few = absurd (omega arith)
entries-received (a ∷ b ∷ c ∷ rest) n long few =
    all-entries n 0 rest (received fresh (a ∷ b ∷ c ∷ [])) n (record { none = refl; long = refl; counted = refl; good = refl }) (omega arith) (omega arith) few

-- the table at once
pub received-whole : (t : List ℕ) → verdict_of (received fresh t) ≡ read_outcome t
unfolding verdict_of read_outcome
received-whole t =
    rw (header-received t, count-prefix t header_length (omega arith))
    (sym (header-front header_kind t _)
    ∙ header-same header_kind t _ _
    (λ header.
    let few = header.few in
    length-same (received fresh t).total (length t) (table_length (count_of t)) _ _ (λ h. counted t (omega arith))
    (λ h. by-lt (length t) most_bytes (λ l. omega (arith, counted t (omega arith))) (λ m. omega (arith, counted-full t m)))
    (λ long. entries-received t (count_of t) long few)))
