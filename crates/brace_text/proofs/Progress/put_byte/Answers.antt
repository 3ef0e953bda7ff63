-- A hyphen, a copied byte and a coded one, each in its turn.
use Rattle.brace_text.proofs.Reading.{adds-hyphen, adds-copied, adds-quintet}
use Rattle.basis.proofs.Stores.{stored_one}
use Rattle.brace_text.proofs.Progress.put_byte.Goals as goal

pub returns-then-byte-eq45 : goal.returns-then-byte-eq45
returns-then-byte-eq45 c =
    let a = c.args in
    rw (adds-hyphen a.self.style a.self.mode a.self.queue.count a.self.queue.value _ c.if-byte-eq45.true) c.put_hyphen.ensures

pub returns-then-is_copied : goal.returns-then-is_copied
returns-then-is_copied c =
    let a = c.args in
    rw (adds-copied a.self.style a.self.mode a.self.queue.count a.self.queue.value _ c.if-byte-eq45.false _ c.is_copied.ensures c.if-is_copied.true) (stored_one _ _ _)

pub returns : goal.returns
returns c =
    let a = c.args in
    rw (adds-quintet a.self.style a.self.mode a.self.queue.count a.self.queue.value _ c.if-byte-eq45.false _ c.is_copied.ensures c.if-is_copied.false
    _ c.quintet_of.ensures.value) (rw (c.with-longer.ensures.0, c.with-longer.ensures.1) at c.put_taken.ensures)
