-- The step in the run's terms: the run over what is left of a chunk is a step, and then the run over what is left behind it.
use Prim.Native.Nat.{ℕ, suc, ◌+◌, ◌-◌, ◌≤◌, ◌<◌, min}
use mathlib.Core.Path.{◌≡◌, refl, sym, ap, ap₂, ◌∙◌}
use mathlib.Core.Bool.{true, false}
use mathlib.Core.List.{List, [], ◌∷◌, ◌++◌, append-nil, append_assoc}
use lib.ListN.{length, get_or, take, drop, length-take, length-drop, drop_of_length-le}
use lib.Seq.{length-take-le, take_all, take-nil}
use native.Mathlib.Omega.{arith}
use lib.Dec.{ltb}
use Rattle.std.specs.Bool.{then_some}
use Rattle.std.proofs.Common.{Option, Some, None}
use borrow.Author.Tests.{lt-ltb, le-ltb}
use Rattle.basis.specs.Tests.{first_below}
use Rattle.basis.proofs.Tests.{cases, by-lt, first-le}
use Rattle.basis.proofs.Parts.{part-is}
use Rattle.lines.specs.Lines.{is_line_feed}
use Rattle.lines.specs.Step.{line_end, held_after, in_front, step_answer}
use Rattle.lines.specs.declared.LineStep.{LineStep}
use Rattle.lines.specs.Run.{held_then, ended_by, ended_in, held_in}
use Rattle.lines.proofs.Holding.{take-held}

-- the part before the first line feed is so long
pub part-long : (left : List ℕ) (end : ℕ) → end ≡ line_end left → end ≡ length (take end left)
unfolding line_end
part-long left end e = sym (length-take-le end left (rw e (first-le (length left) (λ i. is_line_feed (get_or left i 0)))))

-- the first line feed, by the first byte
module _ (b : ℕ) (bytes : List ℕ) where
  end-here : is_line_feed b ≡ true → line_end (b ∷ bytes) ≡ 0
  unfolding line_end first_below
  end-here e = rw e

  end_later : is_line_feed b ≡ false → line_end (b ∷ bytes) ≡ suc (line_end bytes)
  unfolding line_end first_below
  end_later e = rw e

  -- what is held, by the first byte
  held-here : (limit : ℕ) (held : List ℕ) → is_line_feed b ≡ true → length held ≤ limit → held_after limit held (b ∷ bytes) ≡ held
  unfolding held_after
  held-here limit held e h = rw (end-here e, append-nil held) (take_all limit held h)

  held-later : (limit : ℕ) (held : List ℕ) → is_line_feed b ≡ false → held_after limit held (b ∷ bytes) ≡ held_after limit (take limit (held ++ (b ∷ []))) bytes
  unfolding held_after
  held-later limit held e = rw (end_later e, take-held limit (held ++ (b ∷ [])), append_assoc held (b ∷ []))

held_none : (limit : ℕ) (held : List ℕ) → length held ≤ limit → held_after limit held [] ≡ held
unfolding held_after
held_none limit held h = rw (take-nil (line_end []), append-nil held) (take_all limit held h)

held_fits : (limit : ℕ) (held : List ℕ) → length (take limit held) ≤ limit
held_fits limit held = omega (arith, length-take limit held)

-- no more is held than the limit
pub held-few : (limit : ℕ) (held left : List ℕ) → length (held_after limit held left) ≤ limit
unfolding held_after
held-few limit held left = held_fits limit (held ++ take (line_end left) left)

module _ (limit : ℕ) where
  -- a line that ends in what is left of a chunk
  pub step-ended : (held left : List ℕ) → length held ≤ limit → line_end left < length left
      → (ended_in limit held left ≡ held_after limit held left ∷ ended_in limit [] (drop (line_end left + 1) left))
      × (held_in limit held left ≡ held_in limit [] (drop (line_end left + 1) left))
  unfolding ended_in held_in ended_by held_then
  step-ended held [] h e = absurd (omega arith)
  step-ended held (b ∷ bytes) h e =
      cases (is_line_feed b)
      (λ f. rw (held-here b bytes limit held f h, end-here b bytes f, f) (refl, refl))
      (λ f.
      let k : suc (line_end bytes) + 1 ≡ suc (line_end bytes + 1) = omega arith in
      rw (held-later b bytes limit held f, end_later b bytes f, f, k)
      (step-ended (take limit (held ++ (b ∷ []))) bytes (held_fits limit (held ++ (b ∷ []))) (omega (arith, end_later b bytes f))))

  -- and one that does not
  pub step-more : (held left : List ℕ) → length held ≤ limit → length left ≤ line_end left
      → (ended_in limit held left ≡ []) × (held_in limit held left ≡ held_after limit held left)
  unfolding ended_in held_in ended_by held_then
  step-more held [] h e = (refl, sym (held_none limit held h))
  step-more held (b ∷ bytes) h e =
      cases (is_line_feed b)
      (λ f. absurd (omega (arith, end-here b bytes f)))
      (λ f. rw (held-later b bytes limit held f, f) (step-more (take limit (held ++ (b ∷ []))) bytes (held_fits limit (held ++ (b ∷ []))) (omega (arith, end_later b bytes f))))

-- the step that the code takes: from the index, or the end if that is before it, and with the bytes held, or all if they are fewer
module _ (chunk : List ℕ) (from start : ℕ) (line : List ℕ) (held count : ℕ) (s : start ≡ min from (length chunk)) (c : count ≡ min held (length line)) where
  abbrev left : List ℕ
  left = take (length chunk - start) (drop start chunk)

  left_is : left ≡ drop from chunk
  left_is =
      part-is start chunk
      ∙ by-lt from (length chunk)
      (λ h. let e : start ≡ from = omega arith in ap (λ (k : ℕ). drop k chunk) e)
      (λ h. let g : length chunk ≤ start = omega arith in drop_of_length-le chunk g ∙ sym (drop_of_length-le chunk h))

  count-is : take count line ≡ take held line
  count-is =
      by-lt held (length line)
      (λ h. let e : count ≡ held = omega arith in ap (λ (k : ℕ). take k line) e)
      (λ h. take_all count line (omega arith) ∙ sym (take_all held line h))

  module _ (end : ℕ) (e : end ≡ line_end left) where
    -- it is no index past the chunk's end
    pub end-inside : start + end ≤ length chunk
    end-inside = omega (arith, part-long left end e, length-take end left, ap length (part-is start chunk), length-drop start chunk, s)

    end_is : end ≡ line_end (drop from chunk)
    end_is = e ∙ ap line_end left_is

    abbrev kept : List ℕ
    kept = take (length line) (take count line ++ take end left)

    kept-is : kept ≡ held_after (length line) (take held line) (drop from chunk)
    unfolding held_after
    kept-is = rw (e, left_is, count-is)

    module _ (n : ℕ) (now : List ℕ) (k : (n ≡ length kept) × (now ≡ in_front kept line)) where
      abbrev whole : List ℕ
      whole = held_after (length line) (take held line) (drop from chunk)

      same : (n ≡ length whole) × (now ≡ in_front whole line)
      same = (k.0 ∙ ap length kept-is, k.1 ∙ ap (λ (l : List ℕ). in_front l line) kept-is)

      abbrev found : Option ℕ → LineStep
      found next = record { next = next; held = n }

      -- the line ends in what is left, or does not
      pub takes : (next : Option ℕ) → next ≡ then_some (ltb end (length left)) (start + end + 1)
          → (found next ≡ step_answer from (drop from chunk) (length whole)) × (now ≡ in_front whole line)
      unfolding step_answer
      takes next e =
          by-lt end (length left)
          (λ h.
          let i : line_end (drop from chunk) < length (drop from chunk) = omega (arith, end_is, ap length left_is) in
          let j : start + end + 1 ≡ from + line_end (drop from chunk) + 1 = omega (arith, end_is, ap length left_is, length-drop from chunk) in
          (rw (e, lt-ltb _ _ h, lt-ltb _ _ i) (ap₂ (λ (k held : ℕ). record { next = Some k; held = held }) j same.0), same.1))
          (λ h.
          let i : length (drop from chunk) ≤ line_end (drop from chunk) = omega (arith, end_is, ap length left_is) in
          (rw (e, le-ltb _ _ h, le-ltb _ _ i) (ap (λ (held : ℕ). record { next = None; held = held }) same.0), same.1))

-- what an answer of the step says
module _ (from : ℕ) (left : List ℕ) (count : ℕ) (step : LineStep) (is : step ≡ step_answer from left count) where
  pub answers-held : step.held ≡ count
  unfolding step_answer
  answers-held = ap (λ s. s.held) is

  pub answers-ended : (next : ℕ) → step.next ≡ Some next → (line_end left < length left) × (next ≡ from + line_end left + 1)
  unfolding step_answer
  answers-ended next e =
      let n = sym (ap (λ s. s.next) is) ∙ e in
      by-lt (line_end left) (length left)
      (λ h. let q = rw (lt-ltb _ _ h) at n in (h, cc))
      (λ h. let q = rw (le-ltb _ _ h) at n in let z : ◌≡◌ {A = ℕ} 0 1 = cc in absurd (omega arith))

  pub answers-more : step.next ≡ None → length left ≤ line_end left
  unfolding step_answer
  answers-more e =
      let n = sym (ap (λ s. s.next) is) ∙ e in
      by-lt (line_end left) (length left)
      (λ h. let q = rw (lt-ltb _ _ h) at n in let z : ◌≡◌ {A = ℕ} 0 1 = cc in absurd (omega arith))
      (λ h. h)
