-- `n` codes of the half-row are counted, those from `i` on are left.
use Rattle.brace_choice.proofs.HalfRows.{Counting}
use Rattle.brace_choice.proofs.Codes.count_in.Given as goal

abbrev pub invariant-loop-code : goal.invariant-loop-code
invariant-loop-code l = Counting l.fn.half l.fn.self.units.now l.n l.code-index
