-- The published examples, computed.
use mathlib.Core.Path.{refl}
use Rattle.basis.specs.Tests.{both, within, every, first_below}
use Rattle.basis.specs.Outcome.{refused_if}
use Rattle.ascii.specs.Case.{is_capital, small}
use Rattle.ascii.specs.Ldh.{is_ldh, is_all_ldh, has_edge_hyphen, is_host_label}
use Rattle.utf16.specs.Units.{is_high, is_low, is_unpaired, unpaired_at, first_unpaired}
use Rattle.labels.specs.Tests.{label_tests}
use Rattle.alphabet.specs.Alphabet.{brace, character_of, value_of}
use Rattle.copying.specs.Symbols.{byte_of, bytes_of, capital, head_number, is_for, are_for, quintet_of, quintets}
use Rattle.copying.specs.Modes.{after_hyphen, after_other, copying_after, is_copied, is_coded, is_second, next_mode, switch_if}
use Rattle.brace_format.specs.Signature.{signature, is_signed}
use Rattle.brace_format.specs.Style.{other_half, head_width, head_value, width_of, code_of, width_by, unit_of}
use Rattle.brace_choice.specs.Choice.{codes_of, count_in, mixed_cost, no_row_cost, is_better, best_of, mixed_or_no_row, style_for, style_of}
use Rattle.brace_symbols.specs.Encoding.{quintet_count, spare_count, ahead, code_quintets, unit_symbols, out_after, symbols_from, body_of, is_plain, symbols_of, label_of}
use Rattle.brace_text.specs.Decoding.{due_width, is_whole, count_left, value_left, unit_taken, next_count, next_value, adds, text_from, head_length, head_spare, head_style, text_by, kind_of, body_text, text_of}
use Rattle.brace.specs.Answer.{is_too_long, encode_outcome, is_done, is_lawful, first_not_ldh, decode_outcome}
use Rattle.brace_facts.specs.Published.{draft_texts, draft_labels, later_texts, later_bodies, signed, are_labels, Published}

pub published : Published
unfolding draft_texts draft_labels later_texts later_bodies signed are_labels both within every first_below is_capital small is_ldh is_all_ldh has_edge_hyphen is_host_label character_of value_of brace capital byte_of bytes_of is_for are_for quintet_of quintets head_number switch_if copying_after after_hyphen after_other is_second is_copied is_coded next_mode signature is_signed other_half head_width head_value width_of code_of width_by unit_of codes_of count_in mixed_cost no_row_cost is_better best_of mixed_or_no_row style_for style_of quintet_count spare_count ahead code_quintets unit_symbols out_after symbols_from body_of is_plain symbols_of label_of due_width is_whole count_left value_left unit_taken next_count next_value adds text_from head_length head_spare head_style text_by kind_of body_text text_of refused_if is_high is_low is_unpaired unpaired_at first_unpaired is_too_long encode_outcome is_done is_lawful first_not_ldh decode_outcome label_tests
published = record { encoded = refl; decoded = refl; accepted = refl; later_encoded = refl; later_decoded = refl; later_accepted = refl }
