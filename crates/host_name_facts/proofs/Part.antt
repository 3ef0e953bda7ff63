-- One part: the text that is read from a label is written as this label, in small letters where it is of LACE, and is the only such text.
use Prim.Native.Nat.{ℕ}
use mathlib.Core.Path.{◌≡◌, refl, sym, ap, ◌∙◌}
use mathlib.Core.Bool.{true, false}
use mathlib.Core.List.{List, map}
use Rattle.basis.specs.Codec.{Writable}
use Rattle.basis.proofs.Tests.{cases}
use Rattle.basis.proofs.Outcome.{IsDone}
use Rattle.ascii.specs.Case.{small}
use Rattle.ascii.specs.Ldh.{is_host_label}
use Rattle.ascii.specs.Prefix.{has_prefix}
use Rattle.ascii.proofs.Case.{same-but-case, small-spelled}
use Rattle.ascii.proofs.Prefix.{prefix-front}
use Rattle.lace_format.specs.Prefix.{prefix}
use Rattle.lace_encoding.specs.Encoding.{label_of}
use Rattle.lace_decoding.specs.Decoding.{text_of}
use Rattle.lace_facts.specs.Codec.{codec}
use Rattle.lace_facts.proofs.Faithful.{lace-faithful, well-formed-iff, formed-spelled}
use Rattle.host_name.specs.Parts.{has_dot}
use Rattle.host_name.specs.Answer.{part_label, part_written, part_text, part_read}
use Rattle.host_name.proofs.PartLaws.{text-as}
use Rattle.host_name_facts.specs.Codec.{small_part}
use Rattle.host_name_facts.proofs.SmallLace.{small-of-lace, small-of-plain, small-begins}
use Rattle.host_name_facts.proofs.Labels.{host-dotless, label-host, label-lace}
use Rattle.host_name_facts.proofs.PartAnswers.{written-host, written-lace, lace-is-written, read-lace, read_plain}

-- a part without a dot that may be written, whose label is this one, in small letters where it is of LACE
pub record Spells (text label : List ℕ) : Type 0 where
  pub written : IsDone (part_written text)
  pub dotless : has_dot text ≡ false
  pub is : part_label text ≡ small_part label

-- the text of a label that is read spells it
pub read-spells : (label : List ℕ) → IsDone (part_read label) → Spells (part_text label) label
read-spells label reads =
    cases (has_prefix prefix label)
    (λ has.
    let (r, none) = (read-lace label has).0 reads in
    let (other, written) = lace-is-written (text_of label) (lace-faithful.writable label r) in
    rw (text-as label true has)
    (record {
      written = written;
      dotless = none;
      is = label-lace (text_of label) other ∙ formed-spelled label ((well-formed-iff label).0 r) ∙ sym (small-of-lace label has);
    }))
    (λ has.
    let host = (read_plain label has).0 reads in
    rw (text-as label false has)
    (record {
      written = (written-host label host).1 has;
      dotless = host-dotless label host;
      is = label-host label host ∙ sym (small-of-plain label has);
    }))

-- the label of a text that is written begins lq-- exactly if the text is no host label
begins-host : (text : List ℕ) → is_host_label text ≡ true → IsDone (part_written text) → has_prefix prefix (part_label text) ≡ false
begins-host text host written = ap (has_prefix prefix) (label-host text host) ∙ (written-host text host).0 written

begins-lace : (text : List ℕ) → is_host_label text ≡ false → has_prefix prefix (part_label text) ≡ true
unfolding label_of
begins-lace text other = ap (has_prefix prefix) (label-lace text other) ∙ prefix-front prefix _

-- a label that a text spells is read as this text
pub spells-read : (text label : List ℕ) → Spells text label → IsDone (part_read label) × (part_text label ≡ text)
spells-read text label s =
    let begins : has_prefix prefix label ≡ has_prefix prefix (part_label text) = sym (ap (has_prefix prefix) s.is ∙ small-begins label) in
    cases (is_host_label text)
    (λ host.
    let has = begins ∙ begins-host text host s.written in
    let same : label ≡ text = sym (small-of-plain label has) ∙ sym s.is ∙ label-host text host in
    ((read_plain label has).1 (ap is_host_label same ∙ host), text-as label false has ∙ same))
    (λ other.
    let has = begins ∙ begins-lace text other in
    let w = written-lace text other s.written in
    let but-case = small-spelled (label_of text) label (sym (label-lace text other) ∙ s.is ∙ small-of-lace label has) in
    let same : text_of label ≡ text = lace-faithful.text-is text label w but-case in
    ((read-lace label has).1 (lace-faithful.readable text label w but-case, ap has_dot same ∙ s.dotless), text-as label true has ∙ same))

-- the label of a text that is written is in small letters already where it is of LACE
pub label_small : (text : List ℕ) → IsDone (part_written text) → small_part (part_label text) ≡ part_label text
label_small text written =
    cases (is_host_label text)
    (λ host. small-of-plain (part_label text) (begins-host text host written))
    (λ other. small-of-lace (part_label text) (begins-lace text other) ∙ rw (label-lace text other) (small-already (written-lace text other written)))
  where
    small-already : Writable codec text → map small (label_of text) ≡ label_of text
    small-already w =
        let itself = (same-but-case (label_of text) (label_of text)).1 refl in
        sym (formed-spelled (label_of text) ((well-formed-iff (label_of text)).0 (lace-faithful.readable text (label_of text) w itself)))
        ∙ ap label_of (lace-faithful.text-is text (label_of text) w itself)
