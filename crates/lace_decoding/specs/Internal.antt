-- What the private functions compute on the way; no public promise cites it.
use Rattle.std.specs.Prelude.{ℕ, ◌+◌, not, List, eqb, length}
use Rattle.basis.specs.Tests.{pick}
use Rattle.basis.specs.Outcome.{Outcome, done, refused, refused_if}
use Rattle.ascii.specs.Ldh.{is_host_label}
use Rattle.utf16.specs.Units.{to_points, first_unpaired}
use Rattle.lace_decoding.specs.Decoding.{stand_for_units, units_of}

-- what is answered for octets
unfoldable pub octets_outcome : List ℕ → Outcome
octets_outcome os =
    refused_if (not (stand_for_units os)) 9 0
    (refused_if (not (eqb (first_unpaired (units_of os)) (length (units_of os)))) 9 0
    (refused_if (is_host_label (units_of os)) 6 0
    (done (length (to_points (units_of os))))))

-- what is answered for an error of the Base32 reader, by its number: 7 is at its index in the label, any other is 9
unfoldable pub error_after_prefix : ℕ → ℕ → Outcome
error_after_prefix number position = pick (eqb number 7) (refused 7 (4 + position)) (refused 9 0)
