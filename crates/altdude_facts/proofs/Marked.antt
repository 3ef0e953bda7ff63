-- AltDUDE has the facts from which the claims on marks follow.
use mathlib.Core.Path.{refl, sym, ap, ◌∙◌}
use mathlib.Core.Bool.{true}
use mathlib.Core.List.{map}
use Rattle.ascii.specs.Case.{small}
use Rattle.ascii.proofs.Case.{same-but-case}
use Rattle.labels.specs.Tests.{text_tests}
use Rattle.labels.proofs.MarkTests.{writable-marked, lawful-pass, none-lawful}
use Rattle.labels.proofs.MarkFacts.{MarkFacts}
use Rattle.altdude.specs.Encoding.{label_of}
use Rattle.altdude.specs.Marks.{marked, marks_of}
use Rattle.altdude.specs.Answer.{label_outcome, encode_outcome, encode_marked_outcome, decode_marked_outcome}
use Rattle.altdude.proofs.MarkLaws.{as-many-marks}
use Rattle.altdude_facts.specs.Causes.{own_text_causes}
use Rattle.altdude_facts.specs.Marked.{marked_codec}
use Rattle.altdude_facts.proofs.Label.{formed-passes}
use Rattle.altdude_facts.proofs.Settled.{encode-marked-settled}
use Rattle.altdude_facts.proofs.Faithful.{formed-label, well-formed-iff}
use Rattle.altdude_facts.proofs.Marks.{marked-small, marked-none, lawful-marks, kept-marks, small-but-marked, small-but-last, shown-marks}

pub altdude-marks : MarkFacts marked_codec
unfolding encode_outcome encode_marked_outcome decode_marked_outcome
altdude-marks = record {
  encoding = encode-marked-settled;
  decoding = λ text_capacity marks_capacity l. refl;
  writable = λ t marks. writable-marked true t marks (own_text_causes t);
  zero-answer = λ capacity t. ap (text_tests capacity t) (lawful-pass true t _ (label_outcome t) (none-lawful true t));
  zero-label = λ t. marked-none _ (label_of t);
  same-label = λ t marks. (same-but-case _ _).1 (sym (marked-small marks (label_of t)));
  as_many = as-many-marks;
  lawful = λ l n. lawful-marks l (formed-passes l ((well-formed-iff l).0 n)).readable;
  shown = λ t marks w. shown-marks t marks ((writable-marked true t marks (own_text_causes t)).0 w).1;
  kept = kept-marks;
  respelled = λ l n. small-but-marked l ∙ ap (marked (marks_of l)) (sym (formed-label l ((well-formed-iff l).0 n)));
  spelled = λ t marks l e. (same-but-case _ _).1 (sym (marked-small marks (label_of t)) ∙ ap (map small) (sym e) ∙ small-but-last l);
}
