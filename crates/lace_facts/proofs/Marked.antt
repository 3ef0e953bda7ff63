-- LACE has the facts from which the claims on marks follow: its marks are all 0.
use Prim.Native.Nat.{ℕ}
use mathlib.Core.Path.{◌≡◌, refl, sym, ap, ◌∙◌}
use mathlib.Core.Bool.{false}
use mathlib.Core.List.{List, map}
use lib.ListN.{length}
use Rattle.basis.specs.Codec.{Writable}
use Rattle.ascii.specs.Case.{small}
use Rattle.ascii.proofs.Case.{all_small, same-but-case, small-spelled}
use Rattle.utf16.specs.Units.{to_points}
use Rattle.labels.specs.Tests.{text_tests}
use Rattle.labels.specs.Marks.{no_marks}
use Rattle.labels.proofs.MarkTests.{LawfulMarks, writable-marked, lawful-pass, none-lawful, lawful-none}
use Rattle.labels.proofs.MarkFacts.{MarkFacts}
use Rattle.lace_encoding.specs.Encoding.{label_of}
use Rattle.lace_encoding.specs.Answer.{label_outcome}
use Rattle.lace_decoding.specs.Decoding.{text_of, marks_of}
use Rattle.lace.specs.Answer.{encode_outcome, encode_marked_outcome, decode_marked_outcome}
use Rattle.lace_facts.specs.Causes.{own_text_causes}
use Rattle.lace_facts.specs.Codec.{codec}
use Rattle.lace_facts.specs.Marked.{marked_codec}
use Rattle.lace_facts.proofs.Label.{units-case}
use Rattle.lace_facts.proofs.Reserved.{reserved}
use Rattle.lace_facts.proofs.Settled.{encode-marked-settled}
use Rattle.lace_facts.proofs.Faithful.{formed-spelled, well-formed-iff, lace-faithful}

-- the marks of a label do not depend on its case
kept-marks : (l : List ℕ) → marks_of (map small l) ≡ marks_of l
unfolding marks_of text_of
kept-marks l = ap (λ (us : List ℕ). no_marks (length (to_points us))) (units-case (map small l) l (all_small l))

-- those of a text's label are the text's, if they are lawful
shown-marks : (t marks : List ℕ) → Writable codec t → LawfulMarks false t marks → marks_of (label_of t) ≡ marks
unfolding marks_of
shown-marks t marks w lawful =
    ap (λ (u : List ℕ). no_marks (length u)) (lace-faithful.text-is t (label_of t) w ((same-but-case (label_of t) (label_of t)).1 refl))
    ∙ sym (lawful-none t marks lawful)

pub lace-marks : MarkFacts marked_codec
unfolding encode_outcome encode_marked_outcome decode_marked_outcome marks_of
lace-marks = record {
  encoding = encode-marked-settled;
  decoding = λ text_capacity marks_capacity l. refl;
  writable = λ t marks. writable-marked false t marks (own_text_causes t);
  zero-answer = λ capacity t. ap (text_tests capacity t) (lawful-pass false t _ (label_outcome reserved t) (none-lawful false t));
  zero-label = λ t. refl;
  same-label = λ t marks. (same-but-case (label_of t) (label_of t)).1 refl;
  as_many = λ l. (none-lawful false (text_of l)).count;
  lawful = λ l n. none-lawful false (text_of l);
  shown = λ t marks w. let (writable, lawful) = (writable-marked false t marks (own_text_causes t)).0 w in shown-marks t marks writable lawful;
  kept = kept-marks;
  respelled = λ l n. sym (formed-spelled l ((well-formed-iff l).0 n));
  spelled = λ t marks l e. small-spelled (label_of t) l (sym e);
}
