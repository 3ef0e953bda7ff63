-- The causes settle what the Base32 writer and reader answer.
use Prim.Native.Nat.{ℕ, ◌≤◌, ◌<◌}
use mathlib.Core.Path.{◌≡◌}
use mathlib.Core.Bool.{not}
use mathlib.Core.Logic.{⊎_elim}
use mathlib.Core.List.{List}
use lib.Dec.{ltb}
use lib.ListN.{length}
use native.Mathlib.Omega.{arith}
use Rattle.basis.specs.Rows.{at}
use Rattle.basis.specs.Outcome.{refused}
use Rattle.basis.specs.Causes.{Settles}
use Rattle.basis.proofs.Tests.{ltb_iff, not_iff}
use Rattle.basis.proofs.Causes.{settle-whole, settle-first, settle-done}
use Rattle.alphabet.specs.Alphabet.{lace, is_character, values_of}
use Rattle.base32.specs.Form.{octet_count, is_lawful}
use Rattle.base32.specs.Base32.{quintet_count}
use Rattle.base32.specs.Answer.{first_outside, encode_outcome, decode_outcome}
use Rattle.base32.specs.Causes.{encode_causes, decode_causes}

pub encode-settled : (octets : List ℕ) (capacity : ℕ) → Settles (encode_causes octets capacity) (quintet_count (length octets)) (encode_outcome octets capacity)
unfolding encode_outcome
encode-settled octets capacity =
    settle-whole (ltb capacity (quintet_count (length octets))) 1 (ltb_iff capacity (quintet_count (length octets))) (λ _. settle-done (quintet_count (length octets)))

pub decode-settled : (characters : List ℕ) (capacity : ℕ) → Settles (decode_causes characters capacity) (octet_count (length characters)) (decode_outcome characters capacity)
unfolding decode_outcome first_outside
decode-settled characters capacity =
    settle-whole (ltb capacity (octet_count (length characters))) 1 (ltb_iff capacity (octet_count (length characters)))
    (λ _. settle-first (length characters) (λ i. not (is_character lace (at characters i))) 7
    (λ _. settle-whole (not (is_lawful (values_of lace characters))) 9 (not_iff (is_lawful (values_of lace characters)))
    (λ _. settle-done (octet_count (length characters)))))

-- an error's position is at most the number of characters
pub decode-position : (characters : List ℕ) (capacity number position : ℕ) → decode_outcome characters capacity ≡ refused number position → position ≤ length characters
decode-position characters capacity number position e =
    ⊎_elim (λ f. let z : position ≡ 0 = f.1.0 in omega arith)
    (λ f. ⊎_elim (λ g. let z : position < length characters = g.1.inside in omega arith)
    (λ g. ⊎_elim (λ k. let z : position ≡ 0 = k.1.0 in omega arith) (λ k. absurd k.1) g.1) f.1)
    (((decode-settled characters capacity).refuses number position).0 e)
