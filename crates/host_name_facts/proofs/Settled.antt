-- The causes of refusal settle what writing and reading a name answer.
use Prim.Native.Nat.{ℕ, suc, ◌<◌}
use mathlib.Core.Path.{◌≡◌, refl}
use mathlib.Core.Bool.{Bool, true, false}
use mathlib.Core.Logic.Iff
use mathlib.Core.Logic.{◌↔◌}
use mathlib.Core.List.{List, [], ◌∷◌}
use lib.Dec.{eqb}
use lib.ListN.{length}
use borrow.Author.Tests.{ltb-true, eqb-true, eq-eqb}
use native.Mathlib.Omega.{arith}
use Rattle.basis.specs.Tests.{pick, both}
use Rattle.basis.specs.Rows.{at}
use Rattle.basis.specs.Outcome.{Outcome, refused_if}
use Rattle.basis.specs.Causes.{Cause, whole, moved_all, Settles}
use Rattle.basis.proofs.Tests.{cases, ltb_iff, eqb-iff, not_iff, true-not-false, both_left, both_right, both_true, first-here}
use Rattle.basis.proofs.Outcome.{pass-equal}
use Rattle.basis.proofs.Causes.{settle-done, settle-whole, settle-without, settle-and_then}
use Rattle.ascii.specs.Ldh.{is_all_ldh, has_edge_hyphen, is_host_label}
use Rattle.ascii.specs.Prefix.{has_prefix}
use Rattle.ascii.proofs.Prefix.{prefix-long}
use Rattle.labels.specs.Causes as labels
use Rattle.lace_format.specs.Prefix.{prefix}
use Rattle.lace_encoding.specs.Encoding.{label_of}
use Rattle.lace_decoding.specs.Decoding.{text_of}
use Rattle.lace_facts.specs.Causes as lace
use Rattle.lace_facts.proofs.Settled.{encode-settled, decode-settled}
use Rattle.host_name.specs.Parts.{dot, first_dot, has_dot, parts_of}
use Rattle.host_name.specs.Answer.{part_label, part_written, part_text, lace_read, plain_read, part_read, in_turn, name_of, text_of_name, encode_outcome, decode_outcome}
use Rattle.host_name_facts.proofs.Dots.{no-dot-at}
use Rattle.host_name_facts.specs.Causes.{TakenForLace, DotIn, written_part_causes, read_part_causes, parts_causes, text_causes, name_causes}

-- if the causes against each part settle what is answered for it, then those against the parts settle the parts in turn
module _ (answer : List ℕ → Outcome) (causes : List ℕ → List Cause) (values : List ℕ → List ℕ)
    (each : (part : List ℕ) → Settles (causes part) (length (values part)) (answer part)) where
  parts-settled : (index : ℕ) (parts : List (List ℕ)) (later : List Cause) (total : ℕ) (next : Outcome) → Settles later total next
      → Settles (parts_causes causes index parts later) total (in_turn answer index parts next)
  unfolding parts_causes in_turn
  parts-settled index [] later total next rest = rest
  parts-settled index (part ∷ parts) later total next rest =
      settle-and_then (λ _. index) (causes part) (parts_causes causes (suc index) parts later) (length (values part)) total (answer part) (in_turn answer (suc index) parts next)
      (each part) (λ _ _. parts-settled (suc index) parts later total next rest)

-- a test that picks the causes, the values and the outcome
settle-pick : (test : Bool) (values rest : List ℕ) {causes others : List Cause} {outcome next : Outcome}
    → (test ≡ true → Settles causes (length values) outcome) → (test ≡ false → Settles others (length rest) next)
    → Settles (pick test causes others) (length (pick test values rest)) (pick test outcome next)
settle-pick true values rest first second = first refl
settle-pick false values rest first second = second refl

-- at a capacity of 63 LACE's 1 can't come
room-enough : {causes : List Cause} {count : ℕ} {outcome : Outcome} → Settles (whole 1 (63 < 63) ∷ causes) count outcome → Settles causes count outcome
room-enough = settle-without (whole 1 (63 < 63)) (λ position h. omega (arith, h.1))

-- a part is taken for LACE exactly if it begins lq-- and is a host label
taken-iff : (part : List ℕ) → (both (has_prefix prefix part) (is_host_label part) ≡ true) ↔ TakenForLace part
taken-iff part = (λ e. (both_left _ _ e, both_right _ _ e), λ t. both_true t.0 t.1)

-- writing a part
written-part-settled : (part : List ℕ) → Settles (written_part_causes part) (length (part_label part)) (part_written part)
unfolding part_written part_label
written-part-settled part =
    settle-whole _ 2 (eqb-iff (length part) 0)
    (λ _. settle-whole _ 16 (taken-iff part)
    (λ _. settle-pick (is_host_label part) part (label_of part) (λ _. settle-done (length part)) (λ _. room-enough (encode-settled 63 part))))

-- a row holds a dot exactly if one of its elements is one
has-dot-iff : (row : List ℕ) → (has_dot row ≡ true) ↔ DotIn row
unfolding has_dot first_dot
has-dot-iff row =
    let test : ℕ → Bool = λ i. eqb (at row i) dot in (
      λ e. let h = ltb-true _ _ e in (first_dot row, h, eqb-true _ _ (first-here (length row) test h)),
      λ (i, inside, is). cases (has_dot row) (λ e. e) (λ e. absurd (true-not-false (eq-eqb _ _ is) (no-dot-at row e i inside))),
    )

-- reading a label that begins lq--, and any other
lace-read-settled : (part : List ℕ) → Settles (moved_all (λ position. position) (lace.label_causes part) (whole 16 (DotIn (text_of part)) ∷ [])) (length (text_of part)) (lace_read part)
unfolding lace_read
lace-read-settled part =
    settle-and_then (λ position. position) (lace.label_causes part) (whole 16 (DotIn (text_of part)) ∷ []) (length (text_of part)) (length (text_of part)) _ _
    (room-enough (decode-settled 63 part))
    (λ _ _. settle-whole _ 16 (has-dot-iff (text_of part)) (λ _. settle-done (length (text_of part))))

plain-read-settled : (part : List ℕ)
    → Settles (labels.label_causes part (whole 7 (is_all_ldh part ≡ false) ∷ whole 5 (has_edge_hyphen part ≡ true) ∷ [])) (length part) (refused_if (eqb (length part) 0) 2 0 (plain_read part))
unfolding plain_read
plain-read-settled part =
    settle-whole _ 2 (eqb-iff (length part) 0)
    (λ _. settle-whole _ 3 (ltb_iff 63 (length part))
    (λ _. settle-whole _ 7 (not_iff (is_all_ldh part))
    (λ _. settle-whole _ 5 Iff.rfl
    (λ _. settle-done (length part)))))

-- what begins lq-- is not empty, so 2 need be tested of any other label alone
prefix-some : (part : List ℕ) → has_prefix prefix part ≡ true → length part ≡ 0 → ⊥
prefix-some part e none = omega (arith, prefix-long prefix part e)

read-by-prefix : (part : List ℕ) → part_read part ≡ pick (has_prefix prefix part) (lace_read part) (refused_if (eqb (length part) 0) 2 0 (plain_read part))
unfolding part_read
read-by-prefix part = cases (has_prefix prefix part) (λ e. rw e (pass-equal 2 0 (lace_read part) (length part) 0 (prefix-some part e))) (λ e. rw e)

-- reading a part
read-part-settled : (part : List ℕ) → Settles (read_part_causes part) (length (part_text part)) (part_read part)
unfolding part_text
read-part-settled part =
    rw (read-by-prefix part)
    (settle-pick (has_prefix prefix part) (text_of part) part (λ _. lace-read-settled part) (λ _. plain-read-settled part))

-- writing a text as a name, and reading a name
pub name-encode-settled : (capacity : ℕ) (text : List ℕ) → Settles (whole 1 (capacity < 253) ∷ text_causes text) (length (name_of text)) (encode_outcome capacity text)
unfolding encode_outcome
name-encode-settled capacity text =
    settle-whole _ 1 (ltb_iff capacity 253)
    (λ _. settle-whole _ 2 (eqb-iff (length text) 0)
    (λ _. parts-settled part_written written_part_causes part_label written-part-settled 0 (parts_of text) _ _ _
    (settle-whole _ 3 (ltb_iff 253 (length (name_of text)))
    (λ _. settle-done (length (name_of text))))))

pub name-decode-settled : (capacity : ℕ) (name : List ℕ) → Settles (whole 1 (capacity < 253) ∷ name_causes name) (length (text_of_name name)) (decode_outcome capacity name)
unfolding decode_outcome
name-decode-settled capacity name =
    settle-whole _ 1 (ltb_iff capacity 253)
    (λ _. settle-whole _ 2 (eqb-iff (length name) 0)
    (λ _. settle-whole _ 3 (ltb_iff 253 (length name))
    (λ _. parts-settled part_read read_part_causes part_text read-part-settled 0 (parts_of name) _ _ _ (settle-done (length (text_of_name name))))))
