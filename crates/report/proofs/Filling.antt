-- Lines put one behind the other in front of an output, a step for each: what is there, and the room that is left.
use Prim.Native.Nat.{ℕ, ◌+◌, ◌*◌, ◌-◌, ◌≤◌, ◌<◌}
use mathlib.Core.Path.{◌≡◌, refl, sym, ap, ◌∙◌}
use mathlib.Core.List.{List, [], ◌++◌, append_assoc}
use lib.ListN.{length, take, drop, length-append, length-take, length-drop}
use lib.Seq.{drop-drop}
use native.Mathlib.Omega.{arith}
use Rattle.basis.proofs.Parts.{rest_back}
use Rattle.report.specs.Answer.{line_room}

-- after i steps of at most so many: the lines put are in front of the output that was old, and end at an index
pub record Filling (total : ℕ) (old put out : List ℕ) (at i : ℕ) : Type 0 where
  pub count : at ≡ length put
  pub front : out ≡ put ++ drop (length put) old
  pub room : at ≤ line_room * i
  pub within : i ≤ total

pub filling-none : (total : ℕ) (old : List ℕ) → Filling total old [] old 0 0
filling-none total old = record { count = refl; front = refl; room = omega arith; within = omega arith }

-- values in front of a buffer, and others behind them
front-more : (values more old : List ℕ) → values ++ (more ++ drop (length more) (drop (length values) old)) ≡ (values ++ more) ++ drop (length (values ++ more)) old
front-more values more old =
    rw (drop-drop (length more) (length values) old, length-append values more) (sym (append_assoc values more (drop (length values + length more) old)))

module _ {total : ℕ} {old put out : List ℕ} {at i : ℕ} (f : Filling total old put out at i) where
  -- the output has room for a line at each step
  module _ (enough : line_room * total ≤ length old) where
    pub out-long : length out ≡ length old
    out-long = omega (arith, ap length f.front, length-append put (drop (length put) old), length-drop (length put) old, f.count, f.room, f.within)

    pub at-fits : at ≤ length out
    at-fits = omega (arith, out-long, f.room, f.within)

    pub room-left : i < total → line_room ≤ length (take (length out - at) (drop at out))
    room-left h = omega (arith, out-long, f.room, length-take (length out - at) (drop at out), length-drop at out)

  -- a line was put behind the others, in the part of the output that was passed for it
  pub filling-more : (line part : List ℕ) → part ≡ line ++ drop (length line) (take (length out - at) (drop at out)) → (n : ℕ) → n ≡ length line → length line ≤ line_room
      → (j : ℕ) → i < j → j ≤ total → Filling total old (put ++ line) (take at out ++ (part ++ drop (length out - at) (drop at out))) (at + n) j
  filling-more line part p n c fits j later inside = record {
    count = omega (arith, length-append put line, f.count, c);
    front = rest_back at put _ out (sym f.count) f.front part (λ rest. line ++ drop (length line) rest) p ∙ front-more put line old;
    room = omega (arith, c, f.room);
    within = inside;
  }
