-- The table of the scope paper in both forms, and tables that are not lawful.
use Prim.Native.Nat.{ℕ}
use mathlib.Core.Path.{◌≡◌, refl}
use mathlib.Core.List.{List, [], ◌∷◌, ◌++◌, map}
use lib.ListN.{length, take}
use Rattle.basis.specs.Tests.{both, within, every, first_below}
use Rattle.basis.specs.Rows.{tabulate}
use Rattle.basis.specs.Outcome.{done, refused, refused_if, and_then}
use Rattle.ascii.specs.Case.{is_capital, small}
use Rattle.ascii.specs.Ldh.{is_ldh, is_all_ldh, has_edge_hyphen, is_host_label}
use Rattle.ascii.specs.Prefix.{has_prefix}
use Rattle.utf16.specs.Points.{is_point}
use Rattle.utf16.specs.Units as utf16
use Rattle.utf16.specs.Bytes.{units_of_bytes}
use Rattle.alphabet.specs.Alphabet as alphabet
use Rattle.base32.specs.Bits.{bit_of, from_bits, row_bit, group, regroup}
use Rattle.base32.specs.Form.{length_lawful, spare_zero, is_lawful}
use Rattle.base32.specs.Base32.{to_octets}
use Rattle.base32.specs.Answer as base32
use Rattle.labels.specs.Tests.{label_tests}
use Rattle.altdude.specs.Symbols as altdude-symbols
use Rattle.altdude.specs.Decoding as altdude
use Rattle.altdude.specs.Answer as altdude-answer
use Rattle.lace_format.specs.Octets as lace-octets
use Rattle.lace_decoding.specs.Decoding as lace
use Rattle.lace.specs.Answer as lace-answer
use Rattle.scheme.specs.Naming.{row_of, schemes, number_of, first_with, own_number_names, kind_names, is_known, scheme_named}
use Rattle.scheme.specs.Naming as naming
use Rattle.nametable_format.specs.Format.{number_at, count_of, kind_of, reader_of, length_of, label_in, is_filled, scheme_in}
use Rattle.nametable.specs.Answer.{header_tests, length_tests, form_tests, entry_judged, entries_judged, read_outcome}
use Rattle.nametable_write.specs.Writing.{zeros}
use Rattle.nametable_short_format.specs.Format.{room_of, fewest_of, kind_for, short_length, first_entry, after_first, fitted, kind_named, long_of, short_of}
use Rattle.nametable_short.specs.Answer.{whole_tests, short_entry_judged, short_entries_judged, short_read_outcome, header_as, short_entries, long_entries, to_short, to_long, move_outcome, to_short_outcome, to_long_outcome}

-- readers 7 (AltDUDE, 3 and this letter) and 300 (LACE, lq--74apy), in the long form
unfoldable long_table : (letter : ℕ) → List ℕ
long_table letter =
    (0x48 ∷ 0 ∷ 2 ∷ []) ++ ((0x41 ∷ 0 ∷ 7 ∷ 2 ∷ 51 ∷ letter ∷ []) ++ zeros 61)
    ++ ((0x4c ∷ 1 ∷ 44 ∷ 9 ∷ 108 ∷ 113 ∷ 45 ∷ 45 ∷ 55 ∷ 52 ∷ 97 ∷ 112 ∷ 121 ∷ []) ++ zeros 54)

-- and in the short one
unfoldable short_table : (letter : ℕ) → List ℕ
short_table letter =
    (0x49 ∷ 0 ∷ 2 ∷ []) ++ ((0x51 ∷ 0 ∷ 7 ∷ 1 ∷ 2 ∷ 51 ∷ letter ∷ []) ++ zeros 14)
    ++ ((0x51 ∷ 1 ∷ 44 ∷ 2 ∷ 9 ∷ 108 ∷ 113 ∷ 45 ∷ 45 ∷ 55 ∷ 52 ∷ 97 ∷ 112 ∷ 121 ∷ []) ++ zeros 7)

-- with 3n and with 3N each moves to the other, and back
moved-tables :
    to_short (long_table 110) ∷ to_long (short_table 110) ∷ to_short (long_table 78) ∷ to_long (short_table 78) ∷ []
    ≡ short_table 110 ∷ long_table 110 ∷ short_table 78 ∷ long_table 78 ∷ []
unfolding long_table short_table to_short to_long header_as short_entries long_entries short_of long_of fitted tabulate zeros kind_for room_of short_length first_entry after_first kind_named own_number_names kind_names scheme_named first_with schemes number_of naming.kind_of row_of count_of number_at kind_of length_of scheme_in
moved-tables = refl

-- the smallest kinds for 16, 17, 32, 33 and 63 bytes
smallest-kinds : map kind_for (16 ∷ 17 ∷ 32 ∷ 33 ∷ 63 ∷ []) ≡ 0x51 ∷ 0x52 ∷ 0x52 ∷ 0x53 ∷ 0x53 ∷ []
unfolding kind_for
smallest-kinds = refl

-- a short table that announces so many entries, and has the first alone: reader 7, with this kind,
-- scheme and label, and so many zeros after it
unfoldable first_alone : (count kind scheme : ℕ) → List ℕ → (filling : ℕ) → List ℕ
first_alone count kind scheme label filling = (0x49 ∷ 0 ∷ count ∷ []) ++ ((kind ∷ 0 ∷ 7 ∷ scheme ∷ length label ∷ []) ++ (label ++ zeros filling))

-- what reading answers: the table; cut after its first entry, and one byte before its end; its first
-- entry with byte 41 hex after it, and with four bytes of an entry of kind 53 hex; one byte more;
-- label x before an entry that is cut; label x in kind 52 hex; scheme 0; lq--74apy as AltDUDE;
-- headers alone. What moving answers: the tables, in as many bytes as they need and in one less; a
-- cut table in none
outcomes :
    short_read_outcome (short_table 110) ∷ short_read_outcome (take 24 (short_table 110)) ∷ short_read_outcome (take 44 (short_table 110))
    ∷ short_read_outcome (take 24 (short_table 110) ++ (0x41 ∷ [])) ∷ short_read_outcome (take 24 (short_table 110) ++ (0x53 ∷ 0 ∷ 0 ∷ 0 ∷ []))
    ∷ short_read_outcome (short_table 110 ++ (0 ∷ []))
    ∷ short_read_outcome (first_alone 2 0x51 1 (120 ∷ []) 15) ∷ short_read_outcome (first_alone 1 0x52 1 (120 ∷ []) 31) ∷ short_read_outcome (first_alone 1 0x51 0 (51 ∷ 110 ∷ []) 14)
    ∷ short_read_outcome (first_alone 1 0x51 1 (108 ∷ 113 ∷ 45 ∷ 45 ∷ 55 ∷ 52 ∷ 97 ∷ 112 ∷ 121 ∷ []) 7)
    ∷ short_read_outcome (0x49 ∷ []) ∷ short_read_outcome (0x48 ∷ []) ∷ short_read_outcome (0x49 ∷ 0 ∷ 0 ∷ []) ∷ short_read_outcome (0x49 ∷ 1 ∷ 0xf5 ∷ []) ∷ short_read_outcome (0x49 ∷ 0 ∷ 1 ∷ [])
    ∷ to_short_outcome (long_table 110) 45 ∷ to_short_outcome (long_table 110) 44 ∷ to_long_outcome (short_table 110) 137 ∷ to_long_outcome (short_table 110) 136
    ∷ to_short_outcome (take 136 (long_table 110)) 0 ∷ []
    ≡ done 2 ∷ refused 13 0 ∷ refused 13 0
    ∷ refused 14 1 ∷ refused 13 0
    ∷ refused 14 0
    ∷ refused 9 0 ∷ refused 14 0 ∷ refused 14 0
    ∷ refused 7 0
    ∷ refused 13 0 ∷ refused 14 0 ∷ refused 14 0 ∷ refused 14 0 ∷ refused 13 0
    ∷ done 45 ∷ refused 1 0 ∷ done 137 ∷ refused 1 0
    ∷ refused 13 0 ∷ []
unfolding short_table long_table first_alone to_short_outcome to_long_outcome move_outcome to_short to_long header_as short_entries long_entries short_of kind_for read_outcome length_tests entries_judged short_read_outcome header_tests short_entries_judged whole_tests short_entry_judged entry_judged form_tests refused_if and_then both within every first_below long_of fitted tabulate zeros room_of fewest_of short_length first_entry after_first kind_named own_number_names kind_names is_known scheme_named first_with schemes number_of naming.kind_of row_of count_of number_at kind_of reader_of length_of label_in is_filled scheme_in label_tests is_capital small is_ldh is_all_ldh has_edge_hyphen is_host_label has_prefix is_point altdude-answer.decode_outcome altdude-symbols.symbol_of altdude-symbols.is_character altdude-symbols.first_outside altdude.follows altdude.next_remembered altdude.next_pending altdude.is_readable alphabet.value_of alphabet.altdude alphabet.lace alphabet.is_character alphabet.values_of base32.first_outside lace-answer.decode_outcome lace.units_of lace.stand_for_units lace.label_octets lace.label_units lace.is_readable lace-octets.run_count lace-octets.changes units_of_bytes to_octets regroup group from_bits row_bit bit_of length_lawful spare_zero is_lawful utf16.first_unpaired utf16.unpaired_at utf16.is_unpaired utf16.is_high utf16.is_low
outcomes = refl
