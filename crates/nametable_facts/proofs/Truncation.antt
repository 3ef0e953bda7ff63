-- Each proper prefix of a table that reads whole is refused with 13.
use Prim.Native.Nat.{ℕ, ◌≤◌, ◌<◌}
use mathlib.Core.Path.{◌≡◌, sym, ◌∙◌}
use mathlib.Core.List.{List}
use lib.ListN.{length, take}
use lib.Seq.{length-take-le, get_or-take}
use native.Mathlib.Omega.{arith}
use Rattle.basis.specs.Rows.{at}
use Rattle.basis.specs.Outcome.{Outcome, done, refused}
use Rattle.basis.proofs.Tests.{by-lt}
use Rattle.basis.proofs.Outcome.{stop-below}
use Rattle.nametable_format.specs.Format.{header_kind, header_length, number_at, count_of, table_length}
use Rattle.nametable.specs.Answer.{header_tests, length_tests, read_outcome}
use Rattle.nametable.proofs.TableLaws.{empty-header, short-header, header-passed, Header, header-done, read_table}

-- the header of a prefix is that of the table
pub count-prefix : (t : List ℕ) (k : ℕ) → header_length ≤ k → count_of (take k t) ≡ count_of t
unfolding count_of number_at
count-prefix t k h = rw (get_or-take k t 1 0 (omega arith), get_or-take k t 2 0 (omega arith))

-- a prefix of bytes with a lawful header is refused with 13, if what follows the header is
pub header-truncated : (kind : ℕ) (t : List ℕ) (k : ℕ) (next : Outcome) → Header kind t → k < length t → (header_length ≤ k → next ≡ refused 13 0)
    → header_tests kind (take k t) next ≡ refused 13 0
header-truncated kind t k next header h later =
    by-lt 0 k
    (λ some. by-lt k 3
    (λ short. short-header kind (take k t) next (λ z. omega (arith, size, z)) (kind-kept some) (rw size short))
    (λ whole. header-passed kind (take k t) next (kind-kept some) (rw size whole) (sym (count-prefix t k whole)) header.some header.few ∙ later whole))
    (λ none. empty-header kind (take k t) next (omega (arith, size)))
  where
    size : length (take k t) ≡ k
    size = length-take-le k t (omega arith)

    kind-kept : 0 < k → at (take k t) 0 ≡ kind
    kind-kept some = get_or-take k t 0 0 some ∙ header.is

pub prefix-truncated : (t : List ℕ) (n k : ℕ) → read_outcome t ≡ done n → k < length t → read_outcome (take k t) ≡ refused 13 0
unfolding read_outcome length_tests
prefix-truncated t n k e h =
    let w = read_table t n e in
    header-truncated header_kind t k _ (header-done header_kind t _ e).0 h
    (λ whole. stop-below 13 0 _ (length (take k t)) (table_length (count_of (take k t)))
    (rw (length-take-le k t (omega arith), count-prefix t k whole) (omega (arith, w.long, w.counted))))
