-- What is written are the symbols of the units, or none where they may not be written.
use mathlib.Core.Path.{sym, ◌∙◌}
use lib.Seq.{length-take-le}
use Rattle.brace_decoding.proofs.Comparison.{symbols-fit, symbols-compared}
use Rattle.brace_decoding.proofs.decoding.has_label.Goals as goal

pub slice_bounds-symbols-end : goal.slice_bounds-symbols-end
slice_bounds-symbols-end c =
    symbols-fit _ _ _ _ _ (c.put_symbols-answer.ensures.result_value, c.put_symbols-answer.ensures.symbols_after) c.bytes_written-count.ensures

pub slice_bounds-are_for-end : goal.slice_bounds-are_for-end
slice_bounds-are_for-end c =
    sym (length-take-le _ _ (symbols-fit _ _ _ _ _ (c.put_symbols-answer.ensures.result_value, c.put_symbols-answer.ensures.symbols_after) c.bytes_written-count.ensures))

pub returns : goal.returns
returns c =
    c.are_for.ensures ∙ symbols-compared _ _ _ _ _ (c.put_symbols-answer.ensures.result_value, c.put_symbols-answer.ensures.symbols_after) c.bytes_written-count.ensures _ c.requires
