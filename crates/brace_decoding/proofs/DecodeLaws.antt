-- What `decode` answers after the first tests: with the signature, and without it.
use Prim.Native.Nat.{ℕ, zero, suc, ◌-◌, ◌≤◌, ◌<◌}
use mathlib.Core.Path.{◌≡◌, refl, sym, ap, ◌∙◌}
use mathlib.Core.Bool.{Bool, true, false, not}
use mathlib.Core.List.{List, ◌++◌}
use lib.Dec.{ltb}
use lib.ListN.{length, take, drop}
use lib.Seq.{length-take-le}
use native.Mathlib.Omega.{arith}
use Rattle.basis.specs.Tests.{both}
use Rattle.basis.specs.Rows.{at}
use Rattle.basis.specs.Outcome.{Outcome, done, refused, refused_if, buffer_after}
use Rattle.basis.proofs.Tests.{first-le, none-iff}
use Rattle.basis.proofs.Parts.{front-is, front_fits}
use Rattle.basis.proofs.Outcome.{pass-if, pass_below, stop-given, pass-given, done-count, done-not-refused}
use Rattle.ascii.specs.Ldh.{is_ldh, is_all_ldh, has_edge_hyphen}
use Rattle.labels.proofs.FirstTests.{LabelPassed, label-passes}
use Rattle.alphabet.specs.Alphabet.{brace}
use Rattle.copying.specs.Symbols.{are_for}
use Rattle.brace_format.specs.Signature.{is_signed}
use Rattle.brace_symbols.specs.Encoding.{symbols_of}
use Rattle.brace_text.specs.Decoding.{body_text, text_of}
use Rattle.brace_text.specs.Answer.{body_outcome}
use Rattle.brace_symbols.specs.Answer.{encode_outcome}
use Rattle.brace_decoding.specs.Answer.{is_done, is_lawful, first_not_ldh, decode_outcome}
use Rattle.brace_decoding.proofs.Plain.{unsigned-text, plain-lawful}

-- what a label has that passed the first tests
pub label-sizes : (capacity bytes : ℕ) → LabelPassed capacity bytes → (63 ≤ capacity) × (0 < bytes) × (bytes ≤ 63)
label-sizes capacity bytes p = (p.room, positive bytes p.some, p.short)
  where
    positive : (n : ℕ) → (n ≡ 0 → ⊥) → 0 < n
    positive zero d = absurd (d refl)
    positive (suc n) d = omega arith

-- no byte was found that is not LDH
pub all-ldh : (l : List ℕ) (bad : ℕ) → bad ≡ first_not_ldh l → length l ≤ bad → is_all_ldh l ≡ true
unfolding first_not_ldh is_all_ldh
all-ldh l bad e h =
    let k : first_not_ldh l ≡ length l = omega (arith, first-le (length l) (λ i. not (is_ldh (at l i)))) in
    (none-iff (length l) (λ i. is_ldh (at l i))).0 k

-- 63 units are room for what is before the signature
body-room : (l : List ℕ) → length l ≤ 63 → length (take (length l - 4) l) ≤ 63
body-room l h = omega (arith, length-take-le (length l - 4) l (omega arith))

-- the text of a body is read, given the room
module _ (capacity : ℕ) (body old now : List ℕ) (given : Outcome)
    (is : (given ≡ body_outcome capacity body) × (now ≡ buffer_after (body_outcome capacity body) (body_text body) old)) (room : length body ≤ capacity) where
  reads : body_outcome capacity body ≡ done (length (body_text body))
  unfolding body_outcome
  reads = pass_below 1 0 _ capacity (length body) room

  body-done : (n : ℕ) → given ≡ done n → (n ≡ length (body_text body)) × (now ≡ body_text body ++ drop (length (body_text body)) old)
  unfolding buffer_after
  body-done n e = (done-count (sym is.0 ∙ e) reads, is.1 ∙ rw reads)

  body-never : (number position : ℕ) → given ≡ refused number position → ⊥
  body-never number position e = done-not-refused reads (sym is.0 ∙ e)

-- the text of a label with the signature, as it was read to the front of a buffer
module _ (l : List ℕ) (signed : is_signed l ≡ true) where
  signed-text : text_of l ≡ body_text (take (length l - 4) l)
  unfolding text_of
  signed-text = rw signed

  -- given the room
  module _ (short : length l ≤ 63) (capacity : ℕ) (room : 63 ≤ capacity) (old now : List ℕ) (given : Outcome)
      (is : (given ≡ body_outcome capacity (take (length l - 4) l)) × (now ≡ buffer_after (body_outcome capacity (take (length l - 4) l)) (body_text (take (length l - 4) l)) old)) where
    fitting : length (take (length l - 4) l) ≤ capacity
    fitting = omega (arith, body-room l short)

    pub read-never : (number position : ℕ) → given ≡ refused number position → ⊥
    read-never = body-never capacity _ old now given is fitting

    pub text-read : (n : ℕ) → given ≡ done n → (n ≤ length now) × (take n now ≡ text_of l) × (n ≡ length (text_of l))
    text-read n e =
        let b = body-done capacity _ old now given is fitting n e in
        let text = body_text (take (length l - 4) l) in
        (front_fits n text _ now b.0 b.1, front-is n text _ now b.0 b.1 ∙ sym signed-text, b.0 ∙ ap length (sym signed-text))

-- a text that was copied to the front of a buffer
pub copied-text : (t row buffer now : List ℕ) (n : ℕ) → row ≡ t → n ≡ length t → now ≡ row ++ drop (length row) buffer → now ≡ t ++ drop n buffer
copied-text t row buffer now n e m c = rw (m, ← e) c

module _ (capacity : ℕ) (l : List ℕ) (pre : (63 ≤ capacity) × (0 < length l) × (length l ≤ 63)) where
  first-passed : LabelPassed capacity (length l)
  first-passed = record { room = pre.0; some = λ e. omega (arith, pre.1); short = pre.2 }

  -- with the signature the comparison with the text that was read decides
  module _ (signed : is_signed l ≡ true) (row : List ℕ) (is : row ≡ text_of l) (given : Bool)
      (compared : given ≡ both (is_done (encode_outcome 63 row)) (are_for brace (symbols_of row) l)) where
    lawful : given ≡ is_lawful l
    unfolding is_lawful
    lawful = compared ∙ rw is

    signed-outcome : decode_outcome capacity l ≡ refused_if (not (is_lawful l)) 9 0 (done (length (text_of l)))
    unfolding decode_outcome both
    signed-outcome = label-passes capacity (length l) _ first-passed ∙ pass-if 7 _ _ _ (rw signed) ∙ pass-if 5 0 _ _ (rw signed)

    pub signed-refused : not given ≡ true → decode_outcome capacity l ≡ refused 9 0
    signed-refused e = signed-outcome ∙ stop-given 9 0 _ _ _ (ap not lawful) e

    pub signed-done : not given ≡ false → decode_outcome capacity l ≡ done (length (text_of l))
    signed-done e = signed-outcome ∙ pass-given 9 0 _ _ _ (ap not lawful) e

  -- without it two tests decide
  module _ (unsigned : is_signed l ≡ false) where
    pub plain-outcome : decode_outcome capacity l
        ≡ refused_if (ltb (first_not_ldh l) (length l)) 7 (first_not_ldh l) (refused_if (has_edge_hyphen l) 5 0 (refused_if (not (is_lawful l)) 9 0 (done (length (text_of l)))))
    unfolding decode_outcome both
    plain-outcome = label-passes capacity (length l) _ first-passed ∙ rw unsigned

    pub plain_done : is_all_ldh l ≡ true → has_edge_hyphen l ≡ false → refused_if (not (is_lawful l)) 9 0 (done (length (text_of l))) ≡ done (length l)
    plain_done ldh edges =
        pass-if 9 0 _ (not (is_lawful l)) (ap not (plain-lawful l unsigned ldh pre.1 pre.2 edges))
        ∙ ap (λ (t : List ℕ). done (length t)) (unsigned-text l unsigned)
