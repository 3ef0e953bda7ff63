-- Decoding: the units of octets, read one by one, and the text of a label.
use Rattle.std.specs.Prelude.{ℕ, ◌-◌, ◌*◌, ◌%◌, Bool, true, false, not, None, Some, List, [], ◌∷◌, eqb, ltb, leb, length, drop}
use Rattle.std.specs.Option.{is_some, option_eq}
use Rattle.basis.specs.Tests.{pick, both}
use Rattle.basis.specs.Rows.{at}
use Rattle.ascii.specs.Prefix.{after_prefix}
use Rattle.utf16.specs.Units.{to_points, first_unpaired}
use Rattle.alphabet.specs.Alphabet.{lace, values_of}
use Rattle.base32.specs.Form.{is_lawful}
use Rattle.base32.specs.Base32.{to_octets}
use Rattle.utf16.specs.Bytes.{units_of_bytes}
use Rattle.labels.specs.Marks.{no_marks}
use Rattle.lace_format.specs.Prefix.{prefix}
use Rattle.lace_format.specs.Octets.{unit_of, run_count}
use Rattle.lace_decoding.specs.declared.decoding.Place.{Place}
use Rattle.lace_decoding.specs.declared.decoding.Place.TheVariants.{Count, High, Low}

-- A place among runs: before a count, after a run of this high octet, if there was one; before the high octet of a run of
-- so many; before a low octet, with so many to come under this high octet.

-- the octet may be there: a count is 1 or more, a high octet is not that of the run before
unfoldable pub may_stand : Place → ℕ → Bool
may_stand (Count previous) x = not (eqb x 0)
may_stand (High previous count) x = not (option_eq eqb previous (Some x))
may_stand (Low left high) x = true

-- the place after the octet
unfoldable pub place_after : Place → ℕ → Place
place_after (Count previous) x = High previous x
place_after (High previous count) x = Low count x
place_after (Low left high) x = pick (ltb left 2) (Count (Some high)) (Low (left - 1) high)

-- the runs may end there: after a run
unfoldable pub may_end : Place → Bool
may_end (Count previous) = is_some previous
may_end (High previous count) = false
may_end (Low left high) = false

-- the unit that the octet completes, if it does, before the rest
unfoldable pub unit_at : Place → ℕ → List ℕ → List ℕ
unit_at (Count previous) x rest = rest
unit_at (High previous count) x rest = rest
unit_at (Low left high) x rest = unit_of high x ∷ rest

-- the octets are runs, from a place on
unfoldable pub are_runs : Place → List ℕ → Bool
are_runs place [] = may_end place
are_runs place (x ∷ octets) = both (may_stand place x) (are_runs (place_after place x) octets)

-- the units of runs, from a place on
unfoldable pub units_from : Place → List ℕ → List ℕ
units_from place [] = []
units_from place (x ∷ octets) = unit_at place x (units_from (place_after place x) octets)

-- FF is first
abbrev pub begins_ff : List ℕ → Bool
begins_ff octets = eqb (at octets 0) 0xff

-- the units of octets: after FF all units, high octet first, else runs
unfoldable pub units_of : List ℕ → List ℕ
units_of octets = pick (begins_ff octets) (units_of_bytes (drop 1 octets)) (units_from (Count None) octets)

-- the octets stand for units: after FF one or more whole units in more runs than half their number, else runs, at most so many
unfoldable pub stand_for_units : List ℕ → Bool
stand_for_units octets =
    pick (begins_ff octets)
    (both (eqb (length octets % 2) 1) (ltb (length (units_of octets)) (2 * run_count (units_of octets))))
    (both (are_runs (Count None) octets) (leb (2 * run_count (units_of octets)) (length (units_of octets))))

-- the octets and the units of a label
unfoldable pub label_octets : List ℕ → List ℕ
label_octets l = to_octets (values_of lace (after_prefix prefix l))

unfoldable pub label_units : List ℕ → List ℕ
label_units l = units_of (label_octets l)

-- what follows the prefix is lawful Base32 of octets that stand for units, of which no surrogate is unpaired
unfoldable pub is_readable : List ℕ → Bool
is_readable l =
    both (is_lawful (values_of lace (after_prefix prefix l)))
    (both (stand_for_units (label_octets l))
    (eqb (first_unpaired (label_units l)) (length (label_units l))))

-- the text of a label
unfoldable pub text_of : List ℕ → List ℕ
text_of l = to_points (label_units l)

-- the marks of a label: one for each point, all 0
unfoldable pub marks_of : List ℕ → List ℕ
marks_of l = no_marks (length (text_of l))
