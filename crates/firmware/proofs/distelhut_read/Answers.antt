-- `distelhut_read` meets its contract: the answer's number, and the buffer that was passed on.
use mathlib.Core.Path.{ap, ◌∙◌}
use Rattle.firmware.specs.Answer.{answer_of}
use Rattle.firmware.proofs.Counts.{read-few}
use Rattle.firmware.proofs.distelhut_read.Goals as goal

pub answer_number-requires : goal.answer_number-requires
answer_number-requires c = rw c.read.ensures.result_value (read-few _ _ _)

pub returns : goal.returns
returns c =
    record {
      value = c.answer_number.ensures ∙ ap answer_of c.read.ensures.result_value;
      text_after = c.read.ensures.text_after;
    }
