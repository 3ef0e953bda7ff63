-- How many octets and points a label has, and the count of an accepted one.
use Prim.Native.Nat.{ℕ, ◌≤◌}
use mathlib.Core.Path.{◌≡◌, sym, ap, ◌∙◌}
use mathlib.Core.List.{List}
use lib.ListN.{length, length-drop}
use native.Mathlib.Omega.{arith}
use Rattle.basis.specs.Outcome.{done, count_of}
use Rattle.basis.proofs.Outcome.{passed}
use Rattle.ascii.specs.Ldh.{is_host_label}
use Rattle.ascii.specs.Prefix.{after_prefix}
use Rattle.utf16.proofs.RoundTrip.{length-to_points}
use Rattle.alphabet.specs.Alphabet.{lace, values_of}
use Rattle.base32.specs.Form.{octet_count}
use Rattle.base32.proofs.Regroup.{length-to_octets}
use Rattle.base32.proofs.Values.{length-values}
use Rattle.labels.specs.Tests.{label_tests}
use Rattle.labels.proofs.FirstTests.{label-passed}
use Rattle.lace_format.specs.Prefix.{prefix}
use Rattle.lace_decoding.specs.Decoding.{label_octets, label_units, text_of}
use Rattle.lace_decoding.specs.Answer.{decode_outcome}
use Rattle.lace_decoding.proofs.DecodeLaws.{units-le}

pub label-octets-count : (l : List ℕ) → length (label_octets l) ≡ octet_count (length (after_prefix prefix l))
unfolding label_octets
label-octets-count l = length-to_octets (values_of lace (after_prefix prefix l)) ∙ ap octet_count (length-values lace (after_prefix prefix l))

-- a text has at most as many points as its label has bytes
pub text-fits : (l : List ℕ) → length (text_of l) ≤ length l
unfolding text_of label_units
text-fits l = omega (arith, length-to_points (label_units l), units-le (label_octets l), label-octets-count l, length-drop 4 l)

-- the count of an accepted label is that of its text, at most 63
pub accepted-has : (capacity : ℕ) (l : List ℕ) (count : ℕ) → decode_outcome is_host_label capacity l ≡ done count → (count ≤ 63) × (count ≡ length (text_of l))
unfolding decode_outcome label_tests count_of
accepted-has capacity l count e =
    let first = label-passed capacity (length l) count _ e in
    let after = (passed _ _ _ _ _ (passed _ _ _ _ _ (passed _ _ _ _ _ e).1).1).1 in
    let last : done (length (text_of l)) ≡ done count = (passed _ _ _ _ _ (passed _ _ _ _ _ (passed _ _ _ _ _ (passed _ _ _ _ _ after).1).1).1).1 in
    let is : count ≡ length (text_of l) = sym (ap count_of last) in
    (omega (arith, text-fits l, first.short), is)
