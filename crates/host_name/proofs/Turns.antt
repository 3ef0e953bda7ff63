-- Laws on the loops over the parts of a row: the start, a turn, a refusal and the end.
use Prim.Native.Nat.{ℕ, ◌+◌, ◌≤◌}
use mathlib.Core.Path.{◌≡◌, refl, sym, ap, ◌∙◌}
use mathlib.Core.List.{List, [], ◌∷◌, ◌++◌, map}
use lib.Dec.{eqb}
use lib.ListN.{length, take, drop}
use lib.Seq.{sets}
use denote.Ref.{Bor}
use native.Mathlib.Omega.{arith}
use Rattle.std.specs.List.{slice_split, enumerate_from}
use Rattle.std.proofs.Common.{Option, Some, None}
use Rattle.std.proofs.lemmas.Iterator.{YieldsList}
use Rattle.basis.specs.Outcome.{Outcome, done, refused, and_then}
use Rattle.basis.proofs.Outcome.{done-count, both-done}
use Rattle.basis.proofs.Parts.{front-is}
use Rattle.basis.proofs.Stores.{Storing, storing-all, storing-more, storing-none}
use Rattle.host_name.specs.Parts.{dot, parts_of, after_dots}
use Rattle.host_name.specs.Answer.{part_label, part_written, part_text, part_read, in_turn, name_of, text_of_name}
use Rattle.host_name.specs.Internal.{capped, dot_before}
use Rattle.host_name.proofs.Lengths.{name-text-fits}
use Rattle.host_name.proofs.Parts.{left_from, left-first, left-next, Turn, turn-first, turn-part, turn-none, turn-stops, turn_more}
use Rattle.host_name.proofs.Placing.{Placing, placing-all, placing-more, placing-none}

-- a part that was answered with what follows, where that is done: it was done itself, and with that count
follows : (index : ℕ) (o : Outcome) (count n : ℕ) → done n ≡ and_then (λ _. index) o (done count) → ((m : ℕ) × (o ≡ done m)) × (n ≡ count)
follows index o count n e = let b = both-done (λ _. index) o (done count) (sym e) in (b.0, sym (done-count refl b.1))

-- what is left begins with the part that comes
left-part : (value : List ℕ → List ℕ) {index k : ℕ} {parts others : List (List ℕ)} {part : List ℕ} → parts ≡ part ∷ others → k ≡ index
    → left_from index (map value parts) ≡ dot_before k ++ (value part ++ after_dots (map value others))
unfolding left_from
left-part value is same = rw (is, same)

left-end : (value : List ℕ → List ℕ) (index : ℕ) {parts : List (List ℕ)} → parts ≡ [] → left_from index (map value parts) ≡ []
unfolding left_from
left-end value index is = rw is

in-turn-end : (answer : List ℕ → Outcome) (index : ℕ) {parts : List (List ℕ)} (next : Outcome) → parts ≡ [] → in_turn answer index parts next ≡ next
unfolding in_turn
in-turn-end answer index next is = rw is

-- a turn of writing: the labels before it are in the buffer, as far as they fit
pub record Writing {S : Type 0} (steps : S → Option (ℕ × Bor (List ℕ)) → S → Type 0) (text old now : List ℕ) (at : ℕ) (s : S) : Type 0 where
  pub index : ℕ
  pub parts : List (List ℕ)
  pub turn : Turn part_written text steps s index parts
  pub placing : Placing (name_of text) old now at (left_from index (map part_label parts))

module _ {S : Type 0} {steps : S → Option (ℕ × Bor (List ℕ)) → S → Type 0} {text old : List ℕ} where
  pub writing-first : {s : S} → YieldsList steps (λ p. (p.0, p.1.now)) s (enumerate_from 0 (slice_split (λ x. eqb x dot) text)) → Writing steps text old old 0 s
  unfolding name_of
  writing-first y = record {
    index = 0;
    parts = parts_of text;
    turn = turn-first part_written text y;
    placing = rw (left-first (map part_label (parts_of text))) (placing-all old (name_of text));
  }

  module _ {now : List ℕ} {at : ℕ} {s t : S} (w : Writing steps text old now at s) {r : Option (ℕ × Bor (List ℕ))} (step : steps s r t) where
    -- a part, once the dot before it is written: it stops all, or the next is at its turn
    module _ {k : ℕ} {part : Bor (List ℕ)} (is : r ≡ Some (k, part)) where
      pub writing-dotted : {later : List ℕ} {next : ℕ} → later ≡ sets now at (dot_before k) → next ≡ capped (at + length (dot_before k))
          → (others : List (List ℕ)) × Placing (name_of text) old later next (part_label part.now ++ after_dots (map part_label others))
      writing-dotted {later} {next} m n =
          let p = turn-part w.index w.parts w.turn is step in
          (p.0, placing-more w.placing (dot_before k) _ (left-part part_label p.1 p.2) later next m n)

      pub writing-stops : (count : ℕ) {number position : ℕ} (answer : Outcome) → answer ≡ and_then (λ _. k) (part_written part.now) (done count)
          → answer ≡ refused number position → (next : Outcome) → in_turn part_written 0 (parts_of text) next ≡ refused number position
      writing-stops count answer asked e next =
          let p = turn-part w.index w.parts w.turn is step in
          turn-stops w.turn part.now p.0 p.1 _ next refl (ap (λ i. and_then (λ _. i) (part_written part.now) (done count)) (sym p.2) ∙ sym asked ∙ e)

      pub writing_more : {dotted : List ℕ} {next : ℕ} → dotted ≡ sets now at (dot_before k) → next ≡ capped (at + length (dot_before k))
          → (count : ℕ) → done count ≡ and_then (λ _. k) (part_written part.now) (done (capped (next + length (part_label part.now))))
          → (later : List ℕ) → ((n : ℕ) → part_written part.now ≡ done n → later ≡ sets dotted next (part_label part.now))
          → Writing steps text old later count t
      writing_more {dotted} {next} m n count asked later stored =
          let p = turn-part w.index w.parts w.turn is step in
          let f = follows k _ _ count asked in
          let before = placing-more w.placing (dot_before k) _ (left-part part_label p.1 p.2) dotted next m n in
          record {
            index = w.index + 1;
            parts = p.0;
            turn = turn_more w.turn part.now p.0 p.1 f.0.1 p.3;
            placing = placing-more before (part_label part.now) _ (ap (λ l. part_label part.now ++ l) (sym (left-next w.index (map part_label p.0)))) later count (stored f.0.0 f.0.1) f.1;
          }

    -- after the last part
    pub writing-last : r ≡ None → 253 ≤ length old
        → (done at ≡ in_turn part_written 0 (parts_of text) (done (capped (length (name_of text)))))
        × ((n : ℕ) → in_turn part_written 0 (parts_of text) (done (capped (length (name_of text)))) ≡ done n → n ≤ 253 → take n now ≡ name_of text)
    writing-last is room =
        let none = turn-none w.index w.parts w.turn is step in
        let all : in_turn part_written 0 (parts_of text) (done (capped (length (name_of text)))) ≡ done (capped (length (name_of text))) = w.turn.turns _ ∙ in-turn-end part_written w.index _ none in
        let end = placing-none (rw (left-end part_label w.index none) at w.placing) room in (
          ap done end.0 ∙ sym all,
          λ n d h. let same : at ≡ n = end.0 ∙ done-count refl (sym all ∙ d) in ap (λ m. take m now) (sym same) ∙ end.1 (omega (arith, same, h)),
        )

-- a turn of reading: the texts before it are in the buffer
pub record Reading {S : Type 0} (steps : S → Option (ℕ × Bor (List ℕ)) → S → Type 0) (name old now : List ℕ) (at : ℕ) (s : S) : Type 0 where
  pub index : ℕ
  pub parts : List (List ℕ)
  pub turn : Turn part_read name steps s index parts
  pub storing : Storing old (text_of_name name) now at (left_from index (map part_text parts))

module _ {S : Type 0} {steps : S → Option (ℕ × Bor (List ℕ)) → S → Type 0} {name old : List ℕ} where
  pub reading-first : {s : S} → YieldsList steps (λ p. (p.0, p.1.now)) s (enumerate_from 0 (slice_split (λ x. eqb x dot) name)) → Reading steps name old old 0 s
  unfolding text_of_name
  reading-first y = record {
    index = 0;
    parts = parts_of name;
    turn = turn-first part_read name y;
    storing = rw (left-first (map part_text (parts_of name))) (storing-all old (text_of_name name));
  }

  module _ {now : List ℕ} {at : ℕ} {s t : S} (w : Reading steps name old now at s) {r : Option (ℕ × Bor (List ℕ))} (step : steps s r t) where
    -- no more points than the name has bytes
    pub reading-low : at ≤ length name
    reading-low = omega (arith, w.storing.count, name-text-fits name)

    -- a label, once the dot before it is stored: it stops all, or the next is at its turn
    module _ {k : ℕ} {part : Bor (List ℕ)} (is : r ≡ Some (k, part)) where
      module _ {dotted : List ℕ} {next : ℕ} (m : dotted ≡ sets now at (dot_before k)) (n : next ≡ at + length (dot_before k)) where
        reading-dotted : (others : List (List ℕ)) × Storing old (text_of_name name) dotted next (part_text part.now ++ after_dots (map part_text others))
        reading-dotted =
            let p = turn-part w.index w.parts w.turn is step in
            (p.0, storing-more old (text_of_name name) now at _ w.storing (dot_before k) _ (left-part part_text p.1 p.2) dotted next m n)

        pub reading-room : next ≤ length name
        reading-room = omega (arith, reading-dotted.1.count, name-text-fits name)

        pub reading-more : (count : ℕ) → done count ≡ and_then (λ _. k) (part_read part.now) (done (next + length (part_text part.now)))
            → (later : List ℕ) → ((n : ℕ) → part_read part.now ≡ done n → later ≡ sets dotted next (part_text part.now))
            → Reading steps name old later count t
        unfolding reading-dotted
        reading-more count asked later stored =
            let p = turn-part w.index w.parts w.turn is step in
            let f = follows k _ _ count asked in
            record {
              index = w.index + 1;
              parts = p.0;
              turn = turn_more w.turn part.now p.0 p.1 f.0.1 p.3;
              storing = storing-more old (text_of_name name) dotted next _ reading-dotted.1 (part_text part.now) _ (ap (λ l. part_text part.now ++ l) (sym (left-next w.index (map part_text p.0)))) later count (stored f.0.0 f.0.1) f.1;
            }

      pub reading-stops : (count : ℕ) {number position : ℕ} (answer : Outcome) → answer ≡ and_then (λ _. k) (part_read part.now) (done count)
          → answer ≡ refused number position → (next : Outcome) → in_turn part_read 0 (parts_of name) next ≡ refused number position
      reading-stops count answer asked e next =
          let p = turn-part w.index w.parts w.turn is step in
          turn-stops w.turn part.now p.0 p.1 _ next refl (ap (λ i. and_then (λ _. i) (part_read part.now) (done count)) (sym p.2) ∙ sym asked ∙ e)

    -- after the last label
    pub reading-last : r ≡ None → length name ≤ length old
        → (done at ≡ in_turn part_read 0 (parts_of name) (done (length (text_of_name name))))
        × ((n : ℕ) → in_turn part_read 0 (parts_of name) (done (length (text_of_name name))) ≡ done n → take n now ≡ text_of_name name)
    reading-last is room =
        let none = turn-none w.index w.parts w.turn is step in
        let all : in_turn part_read 0 (parts_of name) (done (length (text_of_name name))) ≡ done (length (text_of_name name)) = w.turn.turns _ ∙ in-turn-end part_read w.index _ none in
        let end = storing-none old (text_of_name name) now at _ w.storing (left-end part_text w.index none) (omega (arith, name-text-fits name)) in (
          ap done end.0 ∙ sym all,
          λ n d. front-is n (text_of_name name) (drop (length (text_of_name name)) old) now (sym (done-count refl (sym all ∙ d))) end.1,
        )
