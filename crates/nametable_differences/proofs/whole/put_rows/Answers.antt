-- `whole::put_rows` meets its contract: row by row, the lines of all rows and then the counts.
use Prim.Native.Nat.{ℕ, ◌+◌}
use mathlib.Core.Path.{refl, ap}
use native.Mathlib.Omega.{arith}
use Rattle.nametable_differences.proofs.TurnLaws.{turn-none, taken-some, few-entries, left-few, right-few, counts-few, left-next-few, right-next-few, row_fits, turn_more, counts-fit, turn_end}
use Rattle.basis.proofs.Clauses.{two_clauses}
use Rattle.nametable_differences.proofs.whole.put_rows.Goals as goal

pub overflow_add-total : goal.overflow_add-total
overflow_add-total c =
    omega (arith, c.entry_count-2.ensures, c.entry_count.ensures, few-entries _ c.args.left.now.whole, few-entries _ c.args.right.now.whole)

pub loop-i-init : goal.loop-i-init
loop-i-init c = turn-none _ _ _ _ refl refl refl refl refl

pub overflow_add-i : goal.overflow_add-i
overflow_add-i c =
    omega (arith, left-few c.loop-i.invariant c.args.left.now.whole c.args.right.now.whole, right-few c.loop-i.invariant c.args.left.now.whole c.args.right.now.whole)

pub find_row-found-requires : goal.find_row-found-requires
find_row-found-requires c =
    omega (arith, c.entry_count-2.ensures, c.entry_count.ensures)

pub put_row-at-requires : goal.put_row-at-requires
put_row-at-requires c =
    row_fits c.loop-i.invariant c.args.left.now.whole c.args.right.now.whole _ c.find_row-found.ensures c.requires

pub counted-counts-requires : goal.counted-counts-requires
counted-counts-requires c =
    counts-few c.loop-i.invariant c.args.left.now.whole c.args.right.now.whole

pub overflow_add-i-in-loop-i : goal.overflow_add-i-in-loop-i
overflow_add-i-in-loop-i c =
    omega (arith, c.left_taken-i.ensures, left-next-few c.loop-i.invariant c.args.left.now.whole c.args.right.now.whole _ c.find_row-found.ensures)

pub overflow_add-j : goal.overflow_add-j
overflow_add-j c =
    omega (arith, c.right_taken-j.ensures, right-next-few c.loop-i.invariant c.args.left.now.whole c.args.right.now.whole _ c.find_row-found.ensures)

pub loop-i-smaller : goal.loop-i-smaller
loop-i-smaller c =
    omega (arith, c.right_taken-j.ensures, c.left_taken-i.ensures, taken-some c.find_row-found.result.difference)

pub loop-i-preserved : goal.loop-i-preserved
loop-i-preserved c =
    turn_more c.loop-i.invariant c.args.left.now.whole c.args.right.now.whole _ c.find_row-found.ensures _ c.counted-counts.ensures _ _ c.put_row-at.ensures
    _ _ (ap (λ (k : ℕ). c.loop-i.i + k) c.left_taken-i.ensures) (ap (λ (k : ℕ). c.loop-i.j + k) c.right_taken-j.ensures)

pub put_counts-requires : goal.put_counts-requires
put_counts-requires c =
    counts-fit c.loop-i.invariant c.args.left.now.whole c.args.right.now.whole c.requires

pub returns : goal.returns
returns c =
    two_clauses (λ a b. record { value = a; out_after = b }) (turn_end c.loop-i.invariant c.args.left.now.whole c.args.right.now.whole c.requires (omega (arith, c.entry_count-2.ensures, c.entry_count.ensures)) _ _ c.put_counts.ensures)
