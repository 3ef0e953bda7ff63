-- LACE is faithful, and its rules of form say which labels may be read, over all lists of numbers.
use Prim.Native.Nat.{ℕ, ◌+◌, ◌≤◌}
use mathlib.Core.Path.{◌≡◌, refl, sym, ap, ◌∙◌}
use mathlib.Core.Bool.{true, false, not}
use mathlib.Core.Logic.Iff
use mathlib.Core.Logic.{◌↔◌}
use mathlib.Core.List.{List, [], ◌∷◌, ◌++◌, map}
use lib.ListN.{length, length-map}
use borrow.Author.Tests.{eq-eqb, not-false}
use native.Mathlib.Omega.{arith}
use Rattle.basis.specs.Rows.{at, AllBelow}
use Rattle.basis.specs.Causes.{whole, Absent, NoCause}
use Rattle.basis.specs.Codec.{Writable}
use Rattle.basis.proofs.Tests.{by-lt, true-not-false, both_true, fails-iff}
use Rattle.basis.proofs.Causes.{absent-whole, absent-first}
use Rattle.basis.proofs.Codec.{Faithful}
use Rattle.ascii.specs.Case.{small, SameButCase}
use Rattle.ascii.specs.Prefix.{has_prefix, after_prefix}
use Rattle.ascii.proofs.Case.{same-but-case, small-spelled}
use Rattle.ascii.proofs.Prefix.{prefix-front, prefix-long, prefix-spelled, after_front}
use Rattle.ascii.proofs.Codec.{Ruled, read_alike}
use Rattle.utf16.specs.Points.{is_text}
use Rattle.utf16.specs.Units.{to_units, to_points, first_unpaired}
use Rattle.utf16.proofs.Surrogates.{units_small, units-big}
use Rattle.utf16.proofs.RoundTrip.{points-back, text-paired, text-units, units-back, units-text, length-to_units}
use Rattle.labels.proofs.Causes.{some-iff, short-iff, TextAndLabel, writable-iff}
use Rattle.alphabet.specs.Alphabet.{lace, is_character}
use Rattle.base32.specs.Base32.{characters_of}
use Rattle.base32.specs.Answer.{first_outside}
use Rattle.alphabet.proofs.Inverse.{lace-alphabet}
use Rattle.base32.proofs.RoundTrip.{written-inside, written-lawful, written_read, read-written}
use Rattle.lace_format.specs.Prefix.{prefix}
use Rattle.lace_encoding.specs.Encoding.{octets_of, label_of}
use Rattle.lace_decoding.specs.Decoding.{label_octets, label_units, is_readable, text_of}
use Rattle.lace_facts.proofs.PrefixRule.{prefix-is-small, prefix-iff}
use Rattle.lace_facts.specs.WellFormed.{WellFormed}
use Rattle.lace_facts.specs.Causes.{label_causes}
use Rattle.lace_facts.specs.Codec.{codec}
use Rattle.lace_encoding.proofs.EncodeLaws.{length_label}
use Rattle.lace_encoding.proofs.Runs.{octets-below, units-few}
use Rattle.lace_facts.proofs.UnitOctets.{stand-written, units-written, stand_read, units-below, units-some}
use Rattle.lace_facts.proofs.Label.{Passes, passes-lawful, passes-stand, passes-paired, passes-case, passes-formed, formed-units, formed-passes, label-octets-below, units-case}
use Rattle.lace_facts.proofs.Reserved.{reserved, reserved-units}
use Rattle.lace_facts.proofs.Settled.{unreadable-iff, reserved-iff, encode-settled, decode-settled}

-- a text of one point or more has one unit or more
some-units : (t : List ℕ) → 1 ≤ length t → 1 ≤ length (to_units t)
unfolding to_units
some-units [] h = h
some-units (p ∷ t) h = by-lt p 0x10000 (λ g. rw (units_small p (to_units t) g) (omega arith)) (λ g. rw (units-big p (to_units t) g) (omega arith))

after-label : (t : List ℕ) → after_prefix prefix (label_of t) ≡ characters_of lace (octets_of (to_units t))
unfolding label_of
after-label t = after_front prefix (characters_of lace (octets_of (to_units t)))

-- the label of a text passes the tests, and its units are those of the text
module _ (t : List ℕ) (some : 1 ≤ length t) (text : is_text t ≡ true) (short : length (label_of t) ≤ 63) where
  few : length (to_units t) ≤ 254
  few = omega (arith, length_label t, units-few (to_units t) (some-units t some))

  octets-small : AllBelow 256 (octets_of (to_units t))
  octets-small = octets-below (to_units t) (text-units t text) few

  octets-label : label_octets (label_of t) ≡ octets_of (to_units t)
  unfolding label_octets
  octets-label = rw after-label (written_read lace lace-alphabet (octets_of (to_units t)) octets-small)

  units-label : label_units (label_of t) ≡ to_units t
  unfolding label_units
  units-label = rw octets-label (units-written (to_units t) (text-units t text) few (some-units t some))

  label-passes : Passes (label_of t)
  unfolding label_of is_readable
  label-passes =
      let paired : first_unpaired (label_units (label_of t)) ≡ length (label_units (label_of t)) = rw units-label (text-paired t text) in
      record {
        short = short;
        first = prefix-front prefix (characters_of lace (octets_of (to_units t)));
        inside = rw after-label (written-inside lace lace-alphabet (octets_of (to_units t)));
        readable = both_true (rw after-label (written-lawful lace lace-alphabet (octets_of (to_units t)) octets-small))
            (both_true (rw octets-label (stand-written (to_units t) (text-units t text) (some-units t some) few))
            (eq-eqb _ _ paired));
      }

-- a label that passes the tests is spelled by its text, case aside
module _ (l : List ℕ) (p : Passes l) where
  label-below : AllBelow 0x10000 (label_units l)
  unfolding label_units
  label-below = units-below (label_octets l) (label-octets-below l)

  passes-text : is_text (text_of l) ≡ true
  unfolding text_of
  passes-text = units-text (label_units l) label-below (passes-paired l p)

  passes-units : to_units (text_of l) ≡ label_units l
  unfolding text_of
  passes-units = units-back (label_units l) label-below (passes-paired l p)

  passes-some : length (text_of l) ≡ 0 → ⊥
  unfolding label_units
  passes-some e = omega (arith, units-some (label_octets l) (passes-stand l p), ap length passes-units, length-to_units (text_of l))

  passes-spelled : label_of (text_of l) ≡ map small l
  unfolding label_of label_units label_octets
  passes-spelled =
      ap (λ (us : List ℕ). prefix ++ characters_of lace (octets_of us)) passes-units
      ∙ ap (λ (os : List ℕ). prefix ++ characters_of lace os) (stand_read (label_octets l) (label-octets-below l) (passes-stand l p))
      ∙ ap (λ (cs : List ℕ). prefix ++ cs) (read-written lace lace-alphabet (after_prefix prefix l) p.inside (passes-lawful l p))
      ∙ sym (prefix-spelled prefix l p.first ∙ ap (λ (cs : List ℕ). cs ++ map small (after_prefix prefix l)) prefix-is-small)

-- a well-formed label passes the tests, its units are not reserved, and its text spells it, case aside
module _ (l : List ℕ) (w : WellFormed l) where
  formed-tested : Passes l
  formed-tested = formed-passes l w.units w.formed

  formed-free : reserved (label_units l) ≡ false
  formed-free = ap reserved (sym (formed-units l w.units w.formed)) ∙ w.no_host_label

  pub formed-spelled : label_of (text_of l) ≡ map small l
  formed-spelled = passes-spelled l formed-tested

-- a label that passes the tests and whose units are not reserved is well formed
passes-well : (l : List ℕ) → Passes l → reserved (label_units l) ≡ false → WellFormed l
passes-well l p r = record { units = label_units l; formed = passes-formed l p; no_host_label = r }

-- the labels that may be read are those that are well formed
pub well-formed-iff : (l : List ℕ) → NoCause (label_causes l) ↔ WellFormed l
unfolding first_outside
well-formed-iff l = (
  λ n.
      let short = (short-iff l).0 n.1.0 in
      let first : has_prefix prefix l ≡ true = not-false _ (absent-whole (not (has_prefix prefix l)) (fails-iff (has_prefix prefix l) (prefix-iff l)) n.1.1.0) in
      let inside = absent-first (length (after_prefix prefix l)) (λ k. not (is_character lace (at (after_prefix prefix l) k))) (λ i f. n.1.1.1.0 (4 + i) (i, refl, f)) in
      let readable : is_readable l ≡ true = not-false _ (absent-whole _ (unreadable-iff l short first inside) n.1.1.1.1.0) in
      passes-well l (record { short = short; first = first; inside = inside; readable = readable })
      (absent-whole _ (reserved-iff l short first inside readable) n.1.1.1.1.1.0),
  λ w. (
    (some-iff l).1 (omega (arith, prefix-long prefix l (formed-tested l w).first)),
    (
      (short-iff l).1 (omega (arith, w.formed.short)),
      (
        λ p h. h.1 w.formed.first,
        (
          λ p (i, e, f). true-not-false f.here (ap not (w.formed.characters i f.inside)),
          (λ p h. h.1 w.units w.formed, (λ p (e, (units, f, r)). true-not-false r (ap reserved (formed-units l units f) ∙ formed-free l w), tt)),
        ),
      ),
    ),
  ),
)

-- the texts that may be written
written-iff : (t : List ℕ) → Writable codec t ↔ (TextAndLabel t (label_of t) × Absent (whole 6 (reserved t ≡ true)))
written-iff t = writable-iff (whole 6 (reserved t ≡ true)) t (label_of t)

-- the text of a well-formed label may be written
formed-writable : (l : List ℕ) → WellFormed l → Writable codec (text_of l)
formed-writable l w =
    let text : is_text (text_of l) ≡ true = passes-text l (formed-tested l w) in
    (written-iff (text_of l)).1 (
      record {
        some = omega (arith, passes-some l (formed-tested l w));
        text = text;
        short = omega (arith, w.formed.short, ap length (formed-spelled l w), length-map l small);
      },
      λ p h. true-not-false h.1 (sym (reserved-units (text_of l)) ∙ ap reserved (passes-units l (formed-tested l w)) ∙ formed-free l w),
    )

-- what is the label of a text that may be written is well formed, and its text is that text
module _ (t l : List ℕ) (w : Writable codec t) (e : SameButCase (label_of t) l) where
  written : TextAndLabel t (label_of t)
  written = ((written-iff t).0 w).0

  same_units : label_units l ≡ to_units t
  same_units = sym (units-case (label_of t) l ((same-but-case (label_of t) l).0 e)) ∙ units-label t written.some written.text written.short

  spelled-formed : WellFormed l
  spelled-formed =
      passes-well l (passes-case (label_of t) l ((same-but-case (label_of t) l).0 e) (label-passes t written.some written.text written.short))
      (ap reserved same_units ∙ reserved-units t ∙ absent-whole (reserved t) Iff.rfl ((written-iff t).0 w).1)

  same_text : text_of l ≡ t
  unfolding text_of
  same_text = ap to_points same_units ∙ points-back t written.text

pub lace-faithful : Faithful codec
lace-faithful = record {
  encoding = encode-settled;
  decoding = decode-settled;
  writable = λ l n. formed-writable l ((well-formed-iff l).0 n);
  respelled = λ l n. small-spelled (label_of (text_of l)) l (formed-spelled l ((well-formed-iff l).0 n));
  readable = λ t l w e. (well-formed-iff l).1 (spelled-formed t l w e);
  text-is = same_text;
}

pub lace-ruled : Ruled codec WellFormed
lace-ruled = record { formed = well-formed-iff; alike = read_alike codec lace-faithful (λ l m. Iff.rfl) (λ t u. Iff.rfl) }
