-- Laws on labels: a label that keeps the rules of form passes the tests and is read as its units, and a label that passes them keeps
-- the rules.
use Prim.Native.Nat.{ℕ, ◌+◌, ◌*◌, ◌/◌, ◌%◌, ◌≤◌, ◌<◌}
use mathlib.Core.Path.{◌≡◌, sym, ap, ◌∙◌}
use mathlib.Core.Bool.{true}
use mathlib.Core.Logic.{◌↔◌}
use mathlib.Core.List.{List, map, map-map}
use lib.ListN.{length, length-drop, length-map}
use lib.Seq.{ext_get_or}
use borrow.Author.Tests.{eq-eqb, eqb-true}
use native.Mathlib.Omega.{arith}
use Rattle.basis.specs.Rows.{at, tabulate, AllBelow}
use Rattle.basis.proofs.Tests.{both_left, both_right, both_true, at_each, none-iff, each_at, first-before, first-none}
use Rattle.basis.proofs.Lists.{map_same, length-tabulate, at-tabulate, row_below}
use Rattle.ascii.specs.Case.{small}
use Rattle.ascii.specs.Prefix.{has_prefix, after_prefix}
use Rattle.ascii.proofs.Case.{small-small, at_small}
use Rattle.ascii.proofs.Prefix.{prefix-small, after_small}
use Rattle.utf16.specs.Units.{unpaired_at, first_unpaired}
use Rattle.alphabet.specs.Alphabet.{lace, value_of, is_character, values_of}
use Rattle.base32.specs.Bits.{bit_of, row_bit, group, regroup}
use Rattle.base32.specs.Form.{octet_count, length_lawful, is_lawful}
use Rattle.base32.specs.Base32.{quintet_count, to_octets}
use Rattle.base32.specs.Answer.{first_outside}
use Rattle.alphabet.proofs.Inverse.{value_same}
use Rattle.base32.proofs.Bits.{from_bits-same, row_bit-lt, bits_back, row_back}
use Rattle.base32.proofs.Regroup.{length-to_octets, to_octets-below, count-lawful}
use Rattle.base32.proofs.Values.{length-values, octets-tabulate}
use Rattle.lace_format.specs.Prefix.{prefix}
use Rattle.lace_decoding.specs.Decoding.{units_of, stand_for_units, label_octets, label_units, is_readable}
use Rattle.lace_encoding.proofs.Runs.{units-few}
pub use Rattle.lace_decoding.proofs.Lengths.{label-octets-count, text-fits}
use Rattle.lace_facts.proofs.PrefixRule.{prefix-iff}
use Rattle.lace_facts.specs.WellFormed.{OctetsIn, StandFor, Formed}
use Rattle.lace_facts.proofs.UnitOctets.{stand_read, units-some}
use Rattle.lace_facts.proofs.StandFor.{stand-units, form-stands, stands-form}

-- the values look at the small forms alone
value-small : (b : ℕ) → value_of lace (small b) ≡ value_of lace b
value-small b = value_same lace (small b) b (small-small b)

pub values-small : (cs : List ℕ) → values_of lace (map small cs) ≡ values_of lace cs
unfolding values_of
values-small cs = map-map (value_of lace) small cs ∙ map_same (λ b. value_of lace (small b)) (value_of lace) cs (λ i h. value-small (at cs i))

outside-small : (cs : List ℕ) → first_outside lace (map small cs) ≡ first_outside lace cs
unfolding first_outside is_character
outside-small cs = simp (length-map, at_small, value-small)

-- so do the octets and the units of a label, and the test of it
octets-small : (l : List ℕ) → label_octets (map small l) ≡ label_octets l
unfolding label_octets
octets-small l = ap to_octets (ap (values_of lace) (after_small prefix l) ∙ values-small (after_prefix prefix l))

units_small : (l : List ℕ) → label_units (map small l) ≡ label_units l
unfolding label_units
units_small l = ap units_of (octets-small l)

readable-small : (l : List ℕ) → is_readable (map small l) ≡ is_readable l
unfolding is_readable
readable-small l = rw (octets-small l, units_small l, after_small prefix l, values-small (after_prefix prefix l))

-- what looks at the small forms alone is the same of labels that differ at most in case
case_same : {A : Type 0} (f : List ℕ → A) → ((l : List ℕ) → f (map small l) ≡ f l) → (l k : List ℕ) → map small l ≡ map small k → f l ≡ f k
case_same f Small-same l k e = sym (Small-same l) ∙ ap f e ∙ Small-same k

pub units-case : (l k : List ℕ) → map small l ≡ map small k → label_units l ≡ label_units k
units-case = case_same label_units units_small

-- the octets that the rules of form speak of are those that are read: each is made of its bits
octets-are : (cs os : List ℕ) → OctetsIn cs os → os ≡ to_octets (values_of lace cs)
unfolding regroup group
octets-are cs os o =
    let bits = row_bit 5 (at (values_of lace cs)) in
    let row = group 8 bits in
    ext_get_or 0 os (tabulate (length os) row) (sym (length-tabulate (length os) row))
    (λ i h.
    sym (row_back 8 (at os) i (row_below 256 os (omega arith) o.small i))
    ∙ from_bits-same 8 (λ j. row_bit 8 (at os) (8 * i + j)) (λ j. bits (8 * i + j)) (λ j g. o.bits (8 * i + j) (omega arith))
    ∙ sym (at-tabulate (length os) row i h))
    ∙ sym (octets-tabulate lace cs (length os) o.count)

-- the octets of a label are octets, and few
pub label-octets-below : (l : List ℕ) → AllBelow 256 (label_octets l)
unfolding label_octets
label-octets-below l = to_octets-below (values_of lace (after_prefix prefix l))

pub label-octets-few : (l : List ℕ) → length l ≤ 63 → length (label_octets l) ≤ 36
label-octets-few l h = omega (arith, label-octets-count l, length-drop 4 l)

octets-short : (l : List ℕ) → length l ≤ 63 → length (label_octets l) ≤ 254
octets-short l h = omega (arith, label-octets-few l h)

-- characters of a lawful number, one or more, hold one octet or more
lawful-some : (l : List ℕ) → 1 ≤ length (after_prefix prefix l) → length_lawful (length (after_prefix prefix l)) ≡ true → 1 ≤ length (label_octets l)
lawful-some l some lawful =
    let e : quintet_count (length (label_octets l)) ≡ length (after_prefix prefix l) = rw label-octets-count (count-lawful (length (after_prefix prefix l)) lawful) in
    omega arith

-- a label passes the tests
pub record Passes (l : List ℕ) : Type 0 where
  pub short : length l ≤ 63
  pub first : has_prefix prefix l ≡ true
  pub inside : first_outside lace (after_prefix prefix l) ≡ length (after_prefix prefix l)
  pub readable : is_readable l ≡ true

-- so does a label that differs in case at most
pub passes-case : (l k : List ℕ) → map small l ≡ map small k → Passes l → Passes k
passes-case l k e p = record {
  short = let s = p.short in omega (arith, case_same length (λ l. length-map l small) l k e);
  first = sym (case_same (has_prefix prefix) (prefix-small prefix) l k e) ∙ p.first;
  inside = sym (case_same (λ l. first_outside lace (after_prefix prefix l)) (λ l. ap (first_outside lace) (after_small prefix l) ∙ outside-small (after_prefix prefix l)) l k e)
      ∙ p.inside
      ∙ case_same (λ l. length (after_prefix prefix l)) (λ l. ap length (after_small prefix l) ∙ length-map (after_prefix prefix l) small) l k e;
  readable = sym (case_same is_readable readable-small l k e) ∙ p.readable;
}

-- what a label that passes the tests holds
module _ (l : List ℕ) (p : Passes l) where
  pub passes-lawful : is_lawful (values_of lace (after_prefix prefix l)) ≡ true
  unfolding is_readable
  passes-lawful = both_left _ _ p.readable

  pub passes-stand : stand_for_units (label_octets l) ≡ true
  unfolding is_readable
  passes-stand = both_left _ _ (both_right _ _ p.readable)

  pub passes-paired : first_unpaired (label_units l) ≡ length (label_units l)
  unfolding is_readable
  passes-paired = eqb-true _ _ (both_right _ _ (both_right _ _ p.readable))

-- a label that keeps the rules of form with some units passes the tests, and those are the units that are read
module _ (l units : List ℕ) (f : Formed l units) where
  formed-short : length l ≤ 63
  formed-short = omega (arith, f.short)

  octets-same : f.octets ≡ label_octets l
  unfolding label_octets
  octets-same = octets-are (after_prefix prefix l) f.octets f.octets_in

  formed-stand : StandFor (label_octets l) units
  formed-stand = rw octets-same at f.stand_for

  pub formed-units : units ≡ label_units l
  unfolding label_units
  formed-units = stand-units (label_octets l) units (label-octets-below l) (octets-short l formed-short) formed-stand

  formed-lawful : is_lawful (values_of lace (after_prefix prefix l)) ≡ true
  unfolding is_lawful
  formed-lawful = both_true (rw length-values f.lawful) f.spare

  formed-some : 1 ≤ length (label_octets l)
  formed-some = lawful-some l (omega (arith, f.some)) f.lawful

  formed-paired : first_unpaired (label_units l) ≡ length (label_units l)
  unfolding first_unpaired
  formed-paired = rw (← formed-units) (first-none (length units) (unpaired_at 0 units) f.paired)

  pub formed-passes : Passes l
  unfolding is_readable first_outside
  formed-passes = record {
    short = formed-short;
    first = (prefix-iff l).1 f.first;
    inside = (none-iff _ _).1 (each_at _ _ f.characters);
    readable = both_true formed-lawful
        (both_true (form-stands (label_octets l) units (label-octets-below l) formed-some (octets-short l formed-short) formed-stand)
        (eq-eqb _ _ formed-paired));
  }

-- the octets that are read are those that the rules of form speak of
bits-read : (qs : List ℕ) (k : ℕ) → k < 8 * octet_count (length qs) → row_bit 8 (at (to_octets qs)) k ≡ row_bit 5 (at qs) k
unfolding regroup to_octets row_bit
bits-read qs k h =
    ap (λ (x : ℕ). bit_of 8 x (k % 8)) (at-tabulate (octet_count (length qs)) (regroup 5 8 (at qs)) (k / 8) (omega arith))
    ∙ bits_back 8 (row_bit 5 (at qs)) (omega arith) (row_bit-lt 5 (at qs)) k

octets-in : (cs : List ℕ) → OctetsIn cs (to_octets (values_of lace cs))
octets-in cs =
    let qs = values_of lace cs in
    record {
      count = length-to_octets qs ∙ ap octet_count (length-values lace cs);
      small = to_octets-below qs;
      bits = λ k h. bits-read qs k (rw (length-to_octets qs) at h);
    }

-- a label that passes the tests keeps the rules of form with the units that are read
pub passes-formed : (l : List ℕ) → Passes l → Formed l (label_units l)
unfolding label_units label_octets first_outside first_unpaired is_lawful
passes-formed l p = record {
  short = p.short;
  first = (prefix-iff l).0 p.first;
  characters = at_each _ _ ((none-iff _ _).0 p.inside);
  some = omega (arith, one, label-octets-count l);
  lawful = rw length-values at (both_left _ _ (passes-lawful l p));
  spare = both_right _ _ (passes-lawful l p);
  octets = label_octets l;
  octets_in = octets-in (after_prefix prefix l);
  stand_for = stands-form (label_octets l) (label-octets-below l) (passes-stand l p);
  paired = λ i h. first-before (length (label_units l)) (unpaired_at 0 (label_units l)) i (rw (passes-paired l p) h);
}
  where
    one : 1 ≤ length (label_octets l)
    one =
        let os = label_octets l in
        omega (arith, units-few (units_of os) (units-some os (passes-stand l p)), ap length (stand_read os (label-octets-below l) (passes-stand l p)))

pub formed-iff : (l : List ℕ) → Passes l ↔ ((units : List ℕ) × Formed l units)
formed-iff l = (λ p. (label_units l, passes-formed l p), λ f. formed-passes l f.0 f.1)
