-- `bytes::put_text` meets its contract: what is left are the bytes of the points from the loop's index on.
use native.Mathlib.Omega.{arith}
use Rattle.utf16.proofs.Surrogates.{text_at}
use Rattle.utf16.proofs.Pieces.{putting-none, putting-more, putting-all}
use Rattle.utf16.proofs.Stores.{text-pieces}
use Rattle.basis.proofs.Clauses.{two_clauses}
use Rattle.utf16.proofs.bytes.put_text.Goals as goal

pub loop-point-init : goal.loop-point-init
loop-point-init c = putting-none (text-pieces _) _

pub put_point-at-requires : goal.put_point-at-requires
put_point-at-requires c =
    let s = c.loop-point.invariant in
    record {
      at_in_bounds = omega (arith, s.few, s.left.long);
      point_value = text_at _ _ c.requires.points_value c.loop-point-test.true;
    }

pub loop-point-preserved : goal.loop-point-preserved
loop-point-preserved c =
    putting-more (text-pieces _) c.loop-point.invariant c.loop-point-test.true c.put_point-at.ensures

pub shape_of-bytes : goal.shape_of-bytes
shape_of-bytes c = c.loop-point.invariant.left.long

pub returns : goal.returns
returns c =
    two_clauses (λ a b. record { value = a; bytes_after = b }) (putting-all (text-pieces _) c.loop-point.invariant c.loop-point-test.false c.requires.points_in_bounds)
