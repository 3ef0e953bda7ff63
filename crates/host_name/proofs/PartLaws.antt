-- Laws on one part: what the tests of each function say of its answer and of what it leaves.
use Prim.Native.Nat.{ℕ, ◌+◌, ◌-◌, ◌≤◌, ◌<◌}
use mathlib.Core.Path.{◌≡◌, refl, sym, ap, ◌∙◌}
use mathlib.Core.Bool.{Bool, true, false, not}
use mathlib.Core.List.{List, ◌++◌, append_assoc}
use lib.Dec.{eqb, ltb}
use lib.ListN.{length, take, drop}
use lib.Seq.{sets, sets-eq, drop-drop}
use borrow.Author.Tests.{le-ltb, ltb-false, eq-eqb, ne_eqb}
use native.Mathlib.Omega.{arith}
use Rattle.basis.specs.Tests.{pick, both}
use Rattle.basis.specs.Rows.{at}
use Rattle.basis.specs.Outcome.{Outcome, done, refused, refused_if, and_then, buffer_after}
use Rattle.basis.proofs.Tests.{cases, by-lt, true-not-false, both_false, at_each}
use Rattle.basis.proofs.Outcome.{stop-below, pass_below, stop-if, pass-if, done-count, done-not-refused, both-done, passed, values-are}
use Rattle.basis.proofs.Parts.{part-is, part-back}
use Rattle.ascii.specs.Ldh.{is_ldh, is_all_ldh, has_edge_hyphen, is_host_label}
use Rattle.ascii.specs.Prefix.{has_prefix}
use Rattle.ascii.proofs.Ldh.{ldh-above}
use Rattle.ascii.proofs.HostLabel.{is-host}
use Rattle.labels.specs.Tests.{text_tests, label_tests}
use Rattle.lace_format.specs.Prefix.{prefix}
use Rattle.lace_encoding.specs.Encoding.{label_of}
use Rattle.lace_decoding.specs.Decoding.{text_of}
use Rattle.lace_decoding.proofs.Lengths.{accepted-has}
use Rattle.lace.specs.Answer as lace
use Rattle.host_name.specs.Parts.{has_dot}
use Rattle.host_name.specs.Answer.{part_label, part_written, part_text, lace_read, plain_read, part_read}

-- what a refusal and an answer leave, by what is answered
pub refused-part : (outcome answer : Outcome) (value old now : List ℕ) {number position : ℕ} → outcome ≡ refused number position → answer ≡ refused number position
    → (answer ≡ outcome) × ((n : ℕ) → outcome ≡ done n → now ≡ value ++ drop n old)
refused-part outcome answer value old now w a = (a ∙ sym w, λ n d. absurd (done-not-refused d w))

pub done-part : (outcome : Outcome) (value old now : List ℕ) (count : ℕ) → outcome ≡ done count → now ≡ value ++ drop count old
    → (done count ≡ outcome) × ((n : ℕ) → outcome ≡ done n → now ≡ value ++ drop n old)
done-part outcome value old now count w is = (sym w, λ n d. let c : count ≡ n = done-count w d in rw (← c) is)

-- every point of a host label is a byte
pub host-label-bytes : (part : List ℕ) → is_host_label part ≡ true → (i : ℕ) → i < length part → at part i < 256
unfolding is_all_ldh
host-label-bytes part e i h =
    by-lt (at part i) 123 (λ l. omega arith) (λ l. absurd (true-not-false (at_each (length part) (λ k. is_ldh (at part k)) (is-host part e).ldh i h) (ldh-above (at part i) l)))

-- LACE answers alike at every capacity of 63 or more
lace-room : (capacity : ℕ) (part : List ℕ) → 63 ≤ capacity → lace.encode_outcome is_host_label capacity part ≡ lace.encode_outcome is_host_label 63 part
unfolding lace.encode_outcome text_tests
lace-room capacity part room = rw (le-ltb capacity 63 room)

lace-read-room : (capacity : ℕ) (part : List ℕ) → 63 ≤ capacity → lace.decode_outcome is_host_label capacity part ≡ lace.decode_outcome is_host_label 63 part
unfolding lace.decode_outcome label_tests
lace-read-room capacity part room = rw (le-ltb capacity 63 room)

-- a part that is no host label: LACE's answer, also to an empty one, and its label
module _ (part : List ℕ) (other : is_host_label part ≡ false) where
  lace-empty : eqb (length part) 0 ≡ true → lace.encode_outcome is_host_label 63 part ≡ refused 2 0
  unfolding lace.encode_outcome text_tests refused_if
  lace-empty e = rw e

  lace-written : lace.encode_outcome is_host_label 63 part ≡ part_written part
  unfolding part_written refused_if
  lace-written = cases (eqb (length part) 0) (λ e. rw e (lace-empty e)) (λ e. rw (e, other, both_false (has_prefix prefix part)))

  pub by-lace : (answer : Outcome) (capacity : ℕ) (old now : List ℕ) → 63 ≤ capacity → answer ≡ lace.encode_outcome is_host_label capacity part
      → now ≡ buffer_after (lace.encode_outcome is_host_label capacity part) (label_of part) old
      → (answer ≡ part_written part) × ((n : ℕ) → part_written part ≡ done n → now ≡ part_label part ++ drop n old)
  unfolding buffer_after part_label
  by-lace answer capacity old now room a b =
      let e = lace-room capacity part room ∙ lace-written in
      (a ∙ e, λ n d. rw other (rw (e, d) at b))

-- a host label: copied, if it does not begin lq--
module _ (part : List ℕ) (host : is_host_label part ≡ true) where
  host-written : part_written part ≡ refused_if (has_prefix prefix part) 16 0 (done (length part))
  unfolding part_written refused_if both
  host-written =
      let some : length part ≡ 0 → ⊥ = λ z. omega (arith, (is-host part host).some) in
      cases (has_prefix prefix part) (λ e. rw (ne_eqb (length part) 0 some, host, e)) (λ e. rw (ne_eqb (length part) 0 some, host, e))

  pub taken-for-lace : has_prefix prefix part ≡ true → (answer : Outcome) → answer ≡ refused 16 0 → (old now : List ℕ)
      → (answer ≡ part_written part) × ((n : ℕ) → part_written part ≡ done n → now ≡ part_label part ++ drop n old)
  unfolding refused_if
  taken-for-lace e answer a old now =
      refused-part (part_written part) answer (part_label part) old now (host-written ∙ rw e) a

  pub copied : has_prefix prefix part ≡ false → (old now : List ℕ) → now ≡ part ++ drop (length part) old
      → (done (length part) ≡ part_written part) × ((n : ℕ) → part_written part ≡ done n → now ≡ part_label part ++ drop n old)
  unfolding refused_if part_label
  copied e old now is =
      done-part (part_written part) (part_label part) old now (length part) (host-written ∙ rw e) (rw host is)

-- a part that is written has as many bytes as its label, at most 63
lace-has : (part : List ℕ) (n : ℕ) → lace.encode_outcome is_host_label 63 part ≡ done n → (n ≡ length (label_of part)) × (n ≤ 63)
unfolding lace.encode_outcome text_tests
lace-has part n e =
    let first = (passed _ _ _ _ _ (passed _ _ _ _ _ (passed _ _ _ _ _ e).1).1).1 in
    let last = passed (ltb 63 (length (label_of part))) 3 0 (done (length (label_of part))) n (passed _ _ _ _ _ first).1 in
    let c : length (label_of part) ≡ n = done-count refl last.1 in
    (sym c, omega (arith, ltb-false 63 (length (label_of part)) last.0))

pub written_has : (part : List ℕ) (n : ℕ) → part_written part ≡ done n → (n ≡ length (part_label part)) × (n ≤ 63)
unfolding part_label
written_has part n e =
    cases (is_host_label part)
    (λ host. let c : length part ≡ n = done-count refl (passed _ _ _ _ _ (sym (host-written part host) ∙ e)).1 in (rw host (sym c), omega (arith, (is-host part host).short)))
    (λ other. rw other (lace-has part n (lace-written part other ∙ e)))

-- a label that is read as LACE, by LACE's answer
module _ (part : List ℕ) (capacity : ℕ) (room : 63 ≤ capacity) (answer : Outcome) (old now : List ℕ) (is : answer ≡ lace.decode_outcome is_host_label capacity part)
    (left : now ≡ buffer_after (lace.decode_outcome is_host_label capacity part) (text_of part) old) where
  same : lace.decode_outcome is_host_label 63 part ≡ answer
  same = sym (is ∙ lace-read-room capacity part room)

  pub lace-refused : {number position : ℕ} → answer ≡ refused number position → (answer ≡ lace_read part) × ((n : ℕ) → lace_read part ≡ done n → now ≡ text_of part ++ drop n old)
  unfolding lace_read and_then
  lace-refused e =
      refused-part (lace_read part) answer (text_of part) old now (rw (same, e)) e

  module _ (count : ℕ) (answered : answer ≡ done count) where
    has : count ≡ length (text_of part)
    has = (accepted-has 63 part count (same ∙ answered)).1

    text-is : take count now ≡ text_of part
    text-is = values-are (lace.decode_outcome is_host_label capacity part) (text_of part) old now count (sym is ∙ answered) has left

    -- a dot in the text is 16; without one the answer stays
    pub lace-dotted : has_dot (take count now) ≡ true → (refusal : Outcome) → refusal ≡ refused 16 0
        → (refusal ≡ lace_read part) × ((n : ℕ) → lace_read part ≡ done n → now ≡ text_of part ++ drop n old)
    unfolding lace_read and_then
    lace-dotted h refusal e =
        let g : has_dot (text_of part) ≡ true = rw text-is at h in
        refused-part (lace_read part) refusal (text_of part) old now (rw (same, answered) (stop-if 16 0 _ _ g)) e

    pub lace-done : has_dot (take count now) ≡ false → (answer ≡ lace_read part) × ((n : ℕ) → lace_read part ≡ done n → now ≡ text_of part ++ drop n old)
    unfolding lace_read and_then buffer_after
    lace-done h =
        let g : has_dot (text_of part) ≡ false = rw text-is at h in
        let w : lace_read part ≡ done count = rw (same, answered) (pass-if 16 0 _ _ g ∙ ap done (sym has)) in
        (answered ∙ sym w, λ n d. let c : count ≡ n = done-count w d in rw (sym is ∙ answered, c) at left)

-- a plain label, by its tests in turn
module _ (part : List ℕ) where
  pub plain-long : 63 < length part → plain_read part ≡ refused 3 0
  unfolding plain_read
  plain-long h = stop-below 3 0 _ 63 (length part) h

  module _ (short : length part ≤ 63) where
    pub plain_other : is_all_ldh part ≡ false → plain_read part ≡ refused 7 0
    unfolding plain_read
    plain_other e = pass_below 3 0 _ 63 (length part) short ∙ stop-if 7 0 _ (not (is_all_ldh part)) (ap not e)

    module _ (ldh : is_all_ldh part ≡ true) where
      pub plain-edge : has_edge_hyphen part ≡ true → plain_read part ≡ refused 5 0
      unfolding plain_read
      plain-edge e = pass_below 3 0 _ 63 (length part) short ∙ pass-if 7 0 _ (not (is_all_ldh part)) (ap not ldh) ∙ stop-if 5 0 _ (has_edge_hyphen part) e

      pub plain_done : has_edge_hyphen part ≡ false → plain_read part ≡ done (length part)
      unfolding plain_read
      plain_done e = pass_below 3 0 _ 63 (length part) short ∙ pass-if 7 0 _ (not (is_all_ldh part)) (ap not ldh) ∙ pass-if 5 0 _ (has_edge_hyphen part) e

-- a label, by its beginning
pub read-empty : (part : List ℕ) → length part ≡ 0 → part_read part ≡ refused 2 0
unfolding part_read refused_if
read-empty part e = rw (eq-eqb (length part) 0 e)

pub read_as : (part : List ℕ) (begins : Bool) → has_prefix prefix part ≡ begins → (length part ≡ 0 → ⊥) → part_read part ≡ pick begins (lace_read part) (plain_read part)
unfolding part_read refused_if
read_as part begins e some = rw (ne_eqb (length part) 0 some, e)

pub text-as : (part : List ℕ) (begins : Bool) → has_prefix prefix part ≡ begins → part_text part ≡ pick begins (text_of part) part
unfolding part_text
text-as part begins e = rw e

-- a label that is read has as many points as its text, at most 63
lace-read-has : (part : List ℕ) (n : ℕ) → lace_read part ≡ done n → (n ≡ length (text_of part)) × (n ≤ 63)
unfolding lace_read
lace-read-has part n e =
    let b = both-done (λ position. position) (lace.decode_outcome is_host_label 63 part) _ e in
    let m = accepted-has 63 part b.0.0 b.0.1 in
    let c : length (text_of part) ≡ n = done-count refl (passed _ _ _ _ _ b.1).1 in
    (sym c, omega (arith, m.0, m.1))

plain-has : (part : List ℕ) (n : ℕ) → plain_read part ≡ done n → (n ≡ length part) × (n ≤ 63)
unfolding plain_read
plain-has part n e =
    let first = passed (ltb 63 (length part)) _ _ _ _ e in
    let c : length part ≡ n = done-count refl (passed _ _ _ _ _ (passed _ _ _ _ _ first.1).1).1 in
    (sym c, omega (arith, ltb-false 63 (length part) first.0))

pub read_has : (part : List ℕ) (n : ℕ) → part_read part ≡ done n → (n ≡ length (part_text part)) × (n ≤ 63)
unfolding part_read part_text
read_has part n e =
    let rest = (passed _ _ _ _ _ e).1 in
    cases (has_prefix prefix part) (λ b. rw b (lace-read-has part n (rw b at rest))) (λ b. rw b (plain-has part n (rw b at rest)))

-- a piece that was put at the front of the part of a buffer of so many elements from an index on
pub put-behind : (made piece part : List ℕ) (capacity at n : ℕ) → length made ≡ capacity → n ≡ length piece → at + n ≤ capacity → part ≡ piece ++ drop n (take (capacity - at) (drop at made))
    → take at made ++ (part ++ drop (capacity - at) (drop at made)) ≡ sets made at piece
put-behind made piece part capacity at n long is fits e =
    let m : at + length piece ≤ length made = omega arith in
    rw (← long)
    (part-back at made part
    ∙ ap (λ (l : List ℕ). take at made ++ l) (rw (← long) at e ∙ ap (λ (l : List ℕ). piece ++ drop n l) (part-is at made) ∙ ap (λ (l : List ℕ). piece ++ l) (drop-drop n at made))
    ∙ rw is (sym (sets-eq piece made at m ∙ append_assoc (take at made) piece (drop (at + length piece) made))))

-- a refusal of a part is told at its index
pub told_at : (outcome next answer : Outcome) (index : ℕ) {number position : ℕ} → outcome ≡ refused number position → answer ≡ refused number index
    → answer ≡ and_then (λ _. index) outcome next
unfolding and_then
told_at outcome next answer index e a = a ∙ sym (rw e)
