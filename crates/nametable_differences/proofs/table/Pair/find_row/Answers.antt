-- `Pair::find_row` meets its contract: the lower of the next reader numbers, which is one as an entry is left.
use Prim.Native.Nat.{ℕ, ◌+◌, ◌≤◌, ◌<◌}
use mathlib.Core.Path.{◌≡◌, refl}
use mathlib.Core.List.{List}
use native.Mathlib.Omega.{arith}
use Rattle.basis.proofs.Tests.{by-lt}
use Rattle.nametable_format.specs.Format.{count_of}
use Rattle.nametable_differences.specs.Differences.{reader_numbers}
use Rattle.nametable_differences.specs.Internal.{next_reader}
use Rattle.nametable_differences.proofs.ReaderLaws.{next_past}
use Rattle.nametable_differences.proofs.TurnLaws.{next-left, next-right, next_both}
use Rattle.nametable_differences.proofs.table.Pair.find_row.Goals as goal

-- the next reader numbers are the same: as an entry of one table is left, one of the other is
both-inside : (left : List ℕ) (i : ℕ) (right : List ℕ) (j l r : ℕ) → i + j < count_of left + count_of right → r ≤ l → l ≤ r
    → l ≡ next_reader left i → (i < count_of left → l < reader_numbers) → r ≡ next_reader right j → (j < count_of right → r < reader_numbers)
    → (i < count_of left) × (j < count_of right)
both-inside left i right j l r some down up is small js few =
    by-lt i (count_of left)
    (λ h. (h, by-lt j (count_of right) (λ g. g) (λ g. absurd (omega (arith, small h, next_past right j g, js)))))
    (λ h. absurd (omega (arith, next_past left i h, is, few (omega arith))))

pub returns-then-left_reader-right_reader : goal.returns-then-left_reader-right_reader
returns-then-left_reader-right_reader c =
    next-left _ _ _ _ _ _ c.next_reader-left_reader.ensures.value.0 c.next_reader-right_reader.ensures.value.0 _ c.if-left_reader-right_reader.true refl refl (omega (arith, c.next_reader-right_reader.ensures.value.1))

pub returns-then-right_reader-left_reader : goal.returns-then-right_reader-left_reader
returns-then-right_reader-left_reader c =
    next-right _ _ _ _ _ _ c.next_reader-left_reader.ensures.value.0 c.next_reader-right_reader.ensures.value.0 _ c.if-right_reader-left_reader.true refl refl (omega (arith, c.next_reader-left_reader.ensures.value.1))

pub overflow_cast-result-2 : goal.overflow_cast-result-2
overflow_cast-result-2 c =
    omega (arith, c.next_reader-left_reader.ensures.upper_bound (both-inside _ _ _ _ _ _ c.requires c.if-left_reader-right_reader.false c.if-right_reader-left_reader.false c.next_reader-left_reader.ensures.value.0 c.next_reader-left_reader.ensures.upper_bound c.next_reader-right_reader.ensures.value.0 c.next_reader-right_reader.ensures.upper_bound).0)

pub compare-requires : goal.compare-requires
compare-requires c =
    let b = both-inside _ _ _ _ _ _ c.requires c.if-left_reader-right_reader.false c.if-right_reader-left_reader.false c.next_reader-left_reader.ensures.value.0 c.next_reader-left_reader.ensures.upper_bound c.next_reader-right_reader.ensures.value.0 c.next_reader-right_reader.ensures.upper_bound in
    record {
      i_bound = b.0;
      j_bound = b.1;
    }

pub returns : goal.returns
returns c =
    let b = both-inside _ _ _ _ _ _ c.requires c.if-left_reader-right_reader.false c.if-right_reader-left_reader.false c.next_reader-left_reader.ensures.value.0 c.next_reader-left_reader.ensures.upper_bound c.next_reader-right_reader.ensures.value.0 c.next_reader-right_reader.ensures.upper_bound in
    next_both _ _ _ _ _ _ c.next_reader-left_reader.ensures.value.0 c.next_reader-right_reader.ensures.value.0 _ c.if-left_reader-right_reader.false c.if-right_reader-left_reader.false refl c.compare.ensures (omega (arith, c.next_reader-left_reader.ensures.upper_bound b.0))
