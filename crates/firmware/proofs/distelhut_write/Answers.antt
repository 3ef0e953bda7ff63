-- `distelhut_write` meets its contract: the answer's number, and the buffer that was passed on.
use mathlib.Core.Path.{ap, ◌∙◌}
use Rattle.firmware.specs.Answer.{answer_of}
use Rattle.firmware.proofs.Counts.{write-fits}
use Rattle.firmware.proofs.distelhut_write.Goals as goal

pub answer_number-requires : goal.answer_number-requires
answer_number-requires c = rw c.write.ensures.result_value (write-fits _ _ _)

pub returns : goal.returns
returns c =
    record {
      value = c.answer_number.ensures ∙ ap answer_of c.write.ensures.result_value;
      label_after = c.write.ensures.label_after;
    }
