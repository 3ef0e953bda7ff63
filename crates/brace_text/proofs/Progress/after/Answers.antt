-- The style stays, and the queue stays within 17 bits.
use Rattle.brace_text.proofs.Reading.{next_fits}
use Rattle.brace_text.proofs.Progress.after.Goals as goal

pub invariant_of-result-2 : goal.invariant_of-result-2
invariant_of-result-2 c =
    record {
      row_fits = c.args.self.row_fits;
      few = rw c.next_queue-queue.ensures.0 (next_fits _ _ _ _ _ c.args.self.few c.args.self.queue.fits).0;
    }
