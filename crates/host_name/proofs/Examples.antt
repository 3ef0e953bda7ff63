-- Names that are read and texts that are written, computed by the definitions.
use Prim.Native.Nat.{ℕ, suc, ◌%◌}
use mathlib.Core.Path.{◌≡◌, refl}
use mathlib.Core.List.{List, [], ◌∷◌, ◌++◌, map}
use lib.Dec.{eqb}
use Rattle.basis.specs.Tests.{pick, both, within, every, first_below}
use Rattle.basis.specs.Rows.{tabulate}
use Rattle.basis.specs.Outcome.{done, refused, refused_if, and_then}
use Rattle.ascii.specs.Case.{is_capital, small}
use Rattle.ascii.specs.Ldh.{is_ldh, is_all_ldh, has_edge_hyphen, is_host_label}
use Rattle.ascii.specs.Prefix.{has_prefix}
use Rattle.utf16.specs.Points.{is_point, first_not_point}
use Rattle.utf16.specs.Units.{is_high, is_low, is_unpaired, unpaired_at, first_unpaired, to_units, point_of, points_after, to_points}
use Rattle.utf16.specs.Units as utf16
use Rattle.utf16.specs.Bytes.{units_of_bytes, bytes_of_units}
use Rattle.alphabet.specs.Alphabet as alphabet
use Rattle.base32.specs.Bits.{bit_of, from_bits, row_bit, group, regroup}
use Rattle.base32.specs.Base32.{to_quintets, to_octets, characters_of}
use Rattle.base32.specs.Form.{length_lawful, spare_zero, is_lawful}
use Rattle.base32.specs.Answer.{first_outside}
use Rattle.labels.specs.Tests.{text_tests, label_tests}
use Rattle.lace_format.specs.Octets.{change_between, changes, run_count}
use Rattle.lace_encoding.specs.Encoding.{join_run, longest_runs, run_octets, octets_of, label_of}
use Rattle.lace_decoding.specs.Decoding.{may_stand, place_after, may_end, unit_at, are_runs, units_from, units_of, stand_for_units, label_octets, label_units, is_readable, text_of}
use Rattle.lace.specs.Answer as lace
use Rattle.host_name.specs.Parts.{first_dot, has_dot, join_first, parts_of, after_dots, joined}
use Rattle.host_name.specs.Answer.{part_label, part_written, part_text, lace_read, plain_read, part_read, in_turn, name_of, text_of_name, encode_outcome, decode_outcome}

-- so many elements of one kind, with a dot after each part of so many, if the row goes on
dotted : (part count x : ℕ) → List ℕ
dotted part count x = tabulate count (λ i. pick (eqb (i % suc part) part) 46 x)

-- the text of LQ--74APY.Mill: U+00FC, a dot, Mill
read-text : text_of_name (76 ∷ 81 ∷ 45 ∷ 45 ∷ 55 ∷ 52 ∷ 65 ∷ 80 ∷ 89 ∷ 46 ∷ 77 ∷ 105 ∷ 108 ∷ 108 ∷ []) ≡ 0xfc ∷ 46 ∷ 77 ∷ 105 ∷ 108 ∷ 108 ∷ []
unfolding text_of_name part_text alphabet.value_of alphabet.values_of units_of label_octets label_units text_of to_octets to_points points_after point_of is_high is_low units_of_bytes parts_of join_first after_dots joined has_prefix small is_capital within both every first_below alphabet.lace regroup group from_bits row_bit bit_of tabulate
read-text = refl

-- reading LQ--74APY.Mill; the empty name, ., a., a..b and _..; a.-_ and a.b.-c; a.lq--, a.LQ--aiagcyq,
-- lq--74ac4 and xn--tda.lq--74ac4.-
read-outcomes :
    map (decode_outcome 253) (
    (76 ∷ 81 ∷ 45 ∷ 45 ∷ 55 ∷ 52 ∷ 65 ∷ 80 ∷ 89 ∷ 46 ∷ 77 ∷ 105 ∷ 108 ∷ 108 ∷ [])
    ∷ [] ∷ (46 ∷ []) ∷ (97 ∷ 46 ∷ []) ∷ (97 ∷ 46 ∷ 46 ∷ 98 ∷ []) ∷ (95 ∷ 46 ∷ 46 ∷ []) ∷ (97 ∷ 46 ∷ 45 ∷ 95 ∷ []) ∷ (97 ∷ 46 ∷ 98 ∷ 46 ∷ 45 ∷ 99 ∷ [])
    ∷ (97 ∷ 46 ∷ 108 ∷ 113 ∷ 45 ∷ 45 ∷ []) ∷ (97 ∷ 46 ∷ 76 ∷ 81 ∷ 45 ∷ 45 ∷ 97 ∷ 105 ∷ 97 ∷ 103 ∷ 99 ∷ 121 ∷ 113 ∷ [])
    ∷ (108 ∷ 113 ∷ 45 ∷ 45 ∷ 55 ∷ 52 ∷ 97 ∷ 99 ∷ 52 ∷ []) ∷ (120 ∷ 110 ∷ 45 ∷ 45 ∷ 116 ∷ 100 ∷ 97 ∷ 46 ∷ 108 ∷ 113 ∷ 45 ∷ 45 ∷ 55 ∷ 52 ∷ 97 ∷ 99 ∷ 52 ∷ 46 ∷ 45 ∷ []) ∷ [])
    ≡ done 6 ∷ refused 2 0 ∷ refused 2 0 ∷ refused 2 1 ∷ refused 2 1 ∷ refused 7 0 ∷ refused 7 1 ∷ refused 5 2 ∷ refused 9 1 ∷ refused 6 1 ∷ refused 16 0 ∷ refused 16 1 ∷ []
unfolding decode_outcome part_read lace_read plain_read has_dot first_dot lace.decode_outcome label_tests first_outside alphabet.is_character is_readable is_lawful length_lawful spare_zero stand_for_units are_runs may_stand may_end run_count changes change_between is_unpaired unpaired_at first_unpaired text_of_name part_text alphabet.value_of alphabet.values_of unit_at units_from place_after units_of label_octets label_units text_of to_octets to_points points_after point_of is_high is_low units_of_bytes parts_of join_first after_dots joined refused_if and_then in_turn first_below every both within has_prefix small is_capital is_ldh is_all_ldh has_edge_hyphen is_host_label alphabet.lace regroup group from_bits row_bit bit_of tabulate
read-outcomes = refl

-- reading a. and 64 times _; a name of one letter with room for 252 points; names of 253 and of 254 bytes, a part of 63 letters a
-- before each dot
read-bounds :
    decode_outcome 253 (97 ∷ 46 ∷ dotted 64 64 95) ∷ decode_outcome 252 (97 ∷ []) ∷ decode_outcome 253 (dotted 63 253 97) ∷ decode_outcome 253 (dotted 63 254 97) ∷ []
    ≡ refused 3 1 ∷ refused 1 0 ∷ done 253 ∷ refused 3 0 ∷ []
unfolding dotted decode_outcome part_read plain_read text_of_name part_text parts_of join_first after_dots joined refused_if and_then in_turn every both within has_prefix small is_capital is_ldh is_all_ldh has_edge_hyphen tabulate
read-bounds = refl

-- the names of U+00FC, a dot and Mill, of -ab, of lq-- and of a U+3002 b: lq--74apy.Mill, lq--amac2ylc, lq--aqagy4jnfu and
-- lq--74agcmacabra
written-names :
    map name_of ((0xfc ∷ 46 ∷ 77 ∷ 105 ∷ 108 ∷ 108 ∷ []) ∷ (45 ∷ 97 ∷ 98 ∷ []) ∷ (108 ∷ 113 ∷ 45 ∷ 45 ∷ []) ∷ (97 ∷ 0x3002 ∷ 98 ∷ []) ∷ []) ≡
    (108 ∷ 113 ∷ 45 ∷ 45 ∷ 55 ∷ 52 ∷ 97 ∷ 112 ∷ 121 ∷ 46 ∷ 77 ∷ 105 ∷ 108 ∷ 108 ∷ []) ∷ (108 ∷ 113 ∷ 45 ∷ 45 ∷ 97 ∷ 109 ∷ 97 ∷ 99 ∷ 50 ∷ 121 ∷ 108 ∷ 99 ∷ [])
    ∷ (108 ∷ 113 ∷ 45 ∷ 45 ∷ 97 ∷ 113 ∷ 97 ∷ 103 ∷ 121 ∷ 52 ∷ 106 ∷ 110 ∷ 102 ∷ 117 ∷ []) ∷ (108 ∷ 113 ∷ 45 ∷ 45 ∷ 55 ∷ 52 ∷ 97 ∷ 103 ∷ 99 ∷ 109 ∷ 97 ∷ 99 ∷ 97 ∷ 98 ∷ 114 ∷ 97 ∷ []) ∷ []
unfolding name_of part_label is_host_label is_all_ldh is_ldh has_edge_hyphen label_of octets_of longest_runs join_run run_octets bytes_of_units to_units utf16.units_of characters_of to_quintets alphabet.character_of parts_of join_first after_dots joined within both every alphabet.lace regroup group from_bits row_bit bit_of tabulate
written-names = refl

-- writing the same four, and a.Lq--a
written-outcomes :
    map (encode_outcome 253) ((0xfc ∷ 46 ∷ 77 ∷ 105 ∷ 108 ∷ 108 ∷ []) ∷ (45 ∷ 97 ∷ 98 ∷ []) ∷ (108 ∷ 113 ∷ 45 ∷ 45 ∷ []) ∷ (97 ∷ 0x3002 ∷ 98 ∷ []) ∷ (97 ∷ 46 ∷ 76 ∷ 113 ∷ 45 ∷ 45 ∷ 97 ∷ []) ∷ [])
    ≡ done 14 ∷ done 12 ∷ done 14 ∷ done 16 ∷ refused 16 1 ∷ []
unfolding encode_outcome part_written lace.encode_outcome text_tests is_point first_not_point name_of part_label is_host_label is_all_ldh is_ldh has_edge_hyphen label_of octets_of longest_runs join_run run_octets bytes_of_units to_units utf16.units_of characters_of to_quintets parts_of join_first after_dots joined refused_if and_then in_turn first_below every both within has_prefix small is_capital tabulate
written-outcomes = refl

-- writing 127 letters a parted by dots, and 128; 64 letters a and D800; four parts of 34 times U+0431 and a part a, and aa; lq-- and
-- 59 letters a, and 60
written-bounds :
    map (encode_outcome 253) (
    dotted 1 253 97 ∷ dotted 1 255 97 ∷ (dotted 64 64 97 ++ (0xd800 ∷ []))
    ∷ (dotted 34 139 0x431 ++ (46 ∷ 97 ∷ [])) ∷ (dotted 34 139 0x431 ++ (46 ∷ 97 ∷ 97 ∷ []))
    ∷ (108 ∷ 113 ∷ 45 ∷ 45 ∷ dotted 59 59 97) ∷ (108 ∷ 113 ∷ 45 ∷ 45 ∷ dotted 60 60 97) ∷ [])
    ≡ done 253 ∷ refused 3 0 ∷ refused 4 0 ∷ done 253 ∷ refused 3 0 ∷ refused 16 0 ∷ refused 3 0 ∷ []
unfolding dotted encode_outcome part_written lace.encode_outcome text_tests is_point first_not_point name_of part_label is_host_label is_all_ldh is_ldh has_edge_hyphen label_of octets_of longest_runs join_run run_octets to_units utf16.units_of characters_of to_quintets parts_of join_first after_dots joined refused_if and_then in_turn first_below every both within has_prefix small is_capital tabulate
written-bounds = refl
