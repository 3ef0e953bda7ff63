-- What is left is the text of the bytes from `i` on, from the mode and the queue on.
use Rattle.brace_text.specs.Decoding.{text_from}
use Rattle.brace_text.proofs.Reading.{Getting}
use Rattle.brace_text.proofs.put_text.Given as goal

abbrev pub invariant-loop-byte : goal.invariant-loop-byte
invariant-loop-byte l = Getting (text_from l.fn.start.style l.fn.start.mode l.fn.start.queue.count l.fn.start.queue.value l.rest) l.rest l.initial.units l.units l.progress.style l.progress.mode l.progress.queue.count l.progress.queue.value l.at l.byte-index
