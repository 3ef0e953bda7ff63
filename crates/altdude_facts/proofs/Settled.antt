-- The causes of refusal settle what encoding and decoding answer.
use Prim.Native.Nat.{ℕ, ◌≤◌, ◌<◌}
use mathlib.Core.Path.{◌≡◌}
use mathlib.Core.Bool.{true, false, not}
use mathlib.Core.Logic.{◌↔◌}
use mathlib.Core.List.{List, ◌∷◌, map}
use lib.ListN.{length}
use Rattle.basis.specs.Rows.{at}
use Rattle.basis.specs.Causes.{whole, Settles}
use Rattle.basis.proofs.Tests.{ltb_iff, fails-iff}
use Rattle.basis.proofs.Causes.{settle-whole, settle-first, settle-done}
use Rattle.ascii.specs.Ldh.{has_edge_hyphen}
use Rattle.ascii.proofs.EdgeHyphen.{edges-iff}
use Rattle.labels.proofs.FirstTests.{settle-text, settle-label}
use Rattle.labels.proofs.MarkTests.{settle-marks}
use Rattle.altdude.specs.Symbols.{symbol_of, is_character, first_outside}
use Rattle.altdude.specs.Encoding.{label_of}
use Rattle.altdude.specs.Decoding.{is_readable, text_of}
use Rattle.altdude_facts.specs.WellFormed.{WellFormed}
use Rattle.altdude.specs.Answer.{label_outcome, encode_outcome, encode_marked_outcome, decode_outcome}
use Rattle.altdude_facts.specs.Causes.{NotWellFormed, own_text_causes, text_causes, marked_text_causes, label_causes}
use Rattle.altdude_facts.proofs.Label.{formed-passes, passes-formed}

-- given the earlier tests, the last one fails exactly where the label is not well formed
module _ (l : List ℕ) (some : length l ≡ 0 → ⊥) (short : length l ≤ 63) (inside : first_outside l ≡ length l) (edges : has_edge_hyphen l ≡ false) where
  readable-iff : (is_readable 96 0 (map symbol_of l) ≡ true) ↔ WellFormed l
  readable-iff = (
    λ e. passes-formed l (record { some = some; short = short; inside = inside; edges = edges; readable = e }),
    λ w. (formed-passes l w).readable,
  )

  pub unreadable-iff : (not (is_readable 96 0 (map symbol_of l)) ≡ true) ↔ NotWellFormed l
  unreadable-iff = fails-iff (is_readable 96 0 (map symbol_of l)) readable-iff

-- 5 and 3, of a text that passed the first tests
own-settled : (t : List ℕ) → Settles (own_text_causes t) (length (label_of t)) (label_outcome t)
own-settled t =
    settle-whole _ 5 (edges-iff t)
    (λ _. settle-whole _ 3 (ltb_iff 63 (length (label_of t)))
    (λ _. settle-done (length (label_of t))))

pub encode-settled : (capacity : ℕ) (t : List ℕ) → Settles (whole 1 (capacity < 63) ∷ text_causes t) (length (label_of t)) (encode_outcome capacity t)
unfolding encode_outcome
encode-settled capacity t = settle-text capacity t (own-settled t)

pub encode-marked-settled : (capacity : ℕ) (t marks : List ℕ)
    → Settles (whole 1 (capacity < 63) ∷ marked_text_causes t marks) (length (label_of t)) (encode_marked_outcome capacity t marks)
unfolding encode_marked_outcome
encode-marked-settled capacity t marks = settle-text capacity t (settle-marks true t marks (own-settled t))

pub decode-settled : (capacity : ℕ) (l : List ℕ) → Settles (whole 1 (capacity < 63) ∷ label_causes l) (length (text_of l)) (decode_outcome capacity l)
unfolding decode_outcome first_outside
decode-settled capacity l =
    settle-label capacity l
    (λ some short. settle-first (length l) (λ k. not (is_character (at l k))) 7
    (λ inside. settle-whole _ 5 (edges-iff l)
    (λ edges. settle-whole _ 9 (unreadable-iff l some short inside edges)
    (λ _. settle-done (length (text_of l))))))
