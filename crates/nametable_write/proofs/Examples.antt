-- The table of the scope paper, from its list.
use mathlib.Core.Path.{◌≡◌, refl}
use mathlib.Core.List.{[], ◌∷◌, ◌++◌}
use Rattle.basis.specs.Tests.{both, within, every, first_below}
use Rattle.basis.specs.Rows.{tabulate}
use Rattle.basis.specs.Outcome.{done, refused, refused_if, and_then}
use Rattle.ascii.specs.Ldh.{is_ldh, is_all_ldh, has_edge_hyphen, is_host_label}
use Rattle.utf16.specs.Points.{is_point, first_not_point}
use Rattle.utf16.specs.Units.{units_of, to_units}
use Rattle.utf16.specs.Bytes.{bytes_of_units}
use Rattle.alphabet.specs.Alphabet as alphabet
use Rattle.base32.specs.Bits.{bit_of, from_bits, row_bit, group, regroup}
use Rattle.base32.specs.Base32.{to_quintets, characters_of}
use Rattle.altdude.specs.Symbols.{byte_of}
use Rattle.labels.specs.Tests.{text_tests}
use Rattle.altdude.specs.Encoding as altdude
use Rattle.altdude.specs.Answer as altdude-answer
use Rattle.lace_encoding.specs.Encoding as lace
use Rattle.lace.specs.Answer as lace-answer
use Rattle.scheme.specs.Naming.{row_of, schemes, number_of, kind_of, first_with, own_number_names, is_known, scheme_named}
use Rattle.nametable_write.specs.Writing.{entries_of, sum_of, list_tests, entry_written, reader_in, entries_written, write_outcome, scheme_of, number_bytes, zeros, filled, entry_bytes, entries_bytes, table_of}

-- readers 7 (AltDUDE) and 300 (LACE), each with U+00FC: 3n and lq--74apy
written-table : table_of (entries_of (7 ∷ 300 ∷ []) (1 ∷ 2 ∷ []) (1 ∷ 1 ∷ []) (0xfc ∷ 0xfc ∷ [])) ≡
    (0x48 ∷ 0 ∷ 2 ∷ []) ++ ((0x41 ∷ 0 ∷ 7 ∷ 2 ∷ 51 ∷ 110 ∷ []) ++ zeros 61)
    ++ ((0x4c ∷ 1 ∷ 44 ∷ 9 ∷ 108 ∷ 113 ∷ 45 ∷ 45 ∷ 55 ∷ 52 ∷ 97 ∷ 112 ∷ 121 ∷ []) ++ zeros 54)
unfolding table_of entries_of entries_bytes entry_bytes filled zeros tabulate number_bytes scheme_of scheme_named own_number_names first_with schemes kind_of number_of row_of altdude.label_of altdude.symbols_from altdude.item_of altdude.group_of altdude.leading_digits altdude.remembered_after byte_of alphabet.character_of alphabet.altdude lace.label_of lace.octets_of lace.longest_runs lace.join_run lace.run_octets bytes_of_units to_units units_of characters_of to_quintets regroup group from_bits row_bit bit_of alphabet.lace
written-table = refl

-- what writing answers: the table's 137 bytes; one byte less; no reader, in 2 bytes and in 3; LACE
-- refuses the text before a reader number that does not rise, and after it; scheme 0; D800 in the
-- second text; lengths that sum to the number of points modulo 2^64 alone; three schemes for a reader
written-outcomes :
    write_outcome 137 (7 ∷ 300 ∷ []) (1 ∷ 2 ∷ []) (1 ∷ 1 ∷ []) (0xfc ∷ 0xfc ∷ []) ∷ write_outcome 136 (7 ∷ 300 ∷ []) (1 ∷ 2 ∷ []) (1 ∷ 1 ∷ []) (0xfc ∷ 0xfc ∷ [])
    ∷ write_outcome 2 [] [] [] [] ∷ write_outcome 3 [] [] [] []
    ∷ write_outcome 137 (7 ∷ 7 ∷ []) (2 ∷ 1 ∷ []) (1 ∷ 1 ∷ []) (97 ∷ 97 ∷ []) ∷ write_outcome 137 (7 ∷ 7 ∷ []) (1 ∷ 2 ∷ []) (1 ∷ 1 ∷ []) (97 ∷ 97 ∷ [])
    ∷ write_outcome 137 (7 ∷ 8 ∷ []) (1 ∷ 0 ∷ []) (1 ∷ 0 ∷ []) (97 ∷ []) ∷ write_outcome 137 (7 ∷ 8 ∷ []) (1 ∷ 1 ∷ []) (1 ∷ 4 ∷ []) (97 ∷ 97 ∷ 97 ∷ 97 ∷ 0xd800 ∷ [])
    ∷ write_outcome 137 (7 ∷ 8 ∷ []) (1 ∷ 1 ∷ []) (0xffffffffffffffff ∷ 3 ∷ []) (97 ∷ 97 ∷ []) ∷ write_outcome 70 (7 ∷ []) (1 ∷ 1 ∷ 1 ∷ []) (1 ∷ []) (97 ∷ []) ∷ []
    ≡ done 137 ∷ refused 1 0 ∷ refused 1 0 ∷ refused 14 0 ∷ refused 6 0 ∷ refused 14 1 ∷ refused 14 1 ∷ refused 4 1 ∷ refused 14 0 ∷ refused 14 0 ∷ []
unfolding write_outcome list_tests refused_if within both sum_of entries_of entries_written entry_written reader_in and_then scheme_of scheme_named is_known own_number_names first_with schemes number_of row_of altdude-answer.encode_outcome lace-answer.encode_outcome text_tests is_point first_not_point first_below every is_ldh is_all_ldh has_edge_hyphen is_host_label altdude.label_of altdude.symbols_from altdude.item_of altdude.group_of altdude.leading_digits altdude.remembered_after byte_of alphabet.character_of alphabet.altdude lace.label_of lace.octets_of lace.longest_runs lace.join_run lace.run_octets bytes_of_units to_units units_of characters_of to_quintets tabulate regroup group from_bits row_bit bit_of alphabet.lace
written-outcomes = refl
