-- Answering the lines of a chunk one by one: the start, a line that ended, and the end of the chunk.
use Prim.Native.Nat.{ℕ, ◌+◌, ◌-◌, ◌≤◌, ◌<◌}
use mathlib.Core.Path.{◌≡◌, refl, sym, ap, ◌∙◌}
use mathlib.Core.List.{List, [], ◌∷◌, ◌++◌, append-nil, append_assoc}
use lib.ListN.{length, take, drop, length-take, length-drop, drop_of_length-le}
use lib.Seq.{drop-drop, length-take-le}
use native.Mathlib.Omega.{arith}
use Rattle.std.proofs.Common.{Option, Some, None, Result, Ok}
use Rattle.std.specs.declared.ops.ControlFlow.{ControlFlow}
use Rattle.std.specs.declared.ops.ControlFlow.TheVariants.{Continue}
use Rattle.basis.proofs.Parts.{front-is, front_fits, front_long}
use Rattle.lines.specs.Step.{line_end, held_after, in_front, step_answer}
use Rattle.lines.specs.Run.{ended_in, held_in}
use Rattle.lines.specs.declared.LineStep.{LineStep}
use Rattle.lines.proofs.Stepping.{step-ended, step-more, answers-held, answers-more}
use Rattle.lines.proofs.Taken as taken
use Rattle.report.proofs.Filling.{Filling, filling-none, filling-more}
use Rattle.streams.specs.declared.ReadFailed.{ReadFailed}
use Rattle.bench_list.specs.Listing.{bench_line, bench_lines}
use Rattle.bench_list.specs.Answered.{Answered}
use Rattle.bench_list.specs.Turns.{TurnLeaves}
use Rattle.bench_list.specs.declared.chunks.Progress.{Progress}
use Rattle.bench_list.proofs.Widths.{line-fits}

pub lines-append : (lines more : List (List ℕ)) → bench_lines (lines ++ more) ≡ bench_lines lines ++ bench_lines more
unfolding bench_lines
lines-append [] more = refl
lines-append (line ∷ lines) more = ap (λ (l : List ℕ). bench_line line ++ l) (lines-append lines more) ∙ sym (append_assoc (bench_line line) (bench_lines lines) (bench_lines more))

-- one line more
lines_more : (lines : List (List ℕ)) (line : List ℕ) → bench_lines (lines ++ (line ∷ [])) ≡ bench_lines lines ++ bench_line line
unfolding bench_lines
lines_more lines line = lines-append lines (line ∷ []) ∙ ap (λ (l : List ℕ). bench_lines lines ++ l) (append-nil (bench_line line))

-- the lines that ended before an index are answered, and the run over what is left of the chunk from there is still to come
pub record Answering (limit : ℕ) (before chunk old out : List ℕ) (at : ℕ) (line : List ℕ) (held from : ℕ) : Type 0 where
  pub answered : List (List ℕ)
  pub ended : ended_in limit before chunk ≡ answered ++ ended_in limit (take held line) (drop from chunk)
  pub holds : held_in limit before chunk ≡ held_in limit (take held line) (drop from chunk)
  pub filling : Filling (length chunk) old (bench_lines answered) out at from
  pub long : length line ≡ limit
  pub inside : held ≤ limit

pub answering-start : (chunk old line : List ℕ) (held : ℕ) → held ≤ length line → Answering (length line) (take held line) chunk old old 0 line held 0
unfolding bench_lines
answering-start chunk old line held h = record {
  answered = [];
  ended = refl;
  holds = refl;
  filling = filling-none (length chunk) old;
  long = refl;
  inside = h;
}

module _ {limit : ℕ} {before chunk old out : List ℕ} {at : ℕ} {line : List ℕ} {held from : ℕ} (a : Answering limit before chunk old out at line held from) where
  -- no line ends in what is left
  finish : ended_in limit (take held line) (drop from chunk) ≡ [] → (kept now : List ℕ) (n : ℕ) → held_in limit (take held line) (drop from chunk) ≡ kept
      → n ≡ length kept → take n now ≡ kept → Answered limit before chunk old out at now n
  finish none kept now n k c t =
      let all : ended_in limit before chunk ≡ a.answered = a.ended ∙ ap (λ (ls : List (List ℕ)). a.answered ++ ls) none ∙ append-nil a.answered in
      record {
        count = rw all a.filling.count;
        front = rw all a.filling.front;
        held-count = rw (a.holds, k) c;
        holds = rw (a.holds, k) t;
      }

  -- no byte of the chunk is left
  pub answering-end : length chunk ≤ from → Answered limit before chunk old out at line held
  unfolding ended_in held_in
  answering-end h =
      let none : drop from chunk ≡ [] = drop_of_length-le chunk h in
      finish (rw none) (take held line) line held (rw none) (sym (length-take-le held line (omega (arith, a.long, a.inside)))) refl

  -- what the step holds
  abbrev holding : List ℕ
  holding = held_after (length line) (take held line) (drop from chunk)

  taken-fits : length (take held line) ≤ length line
  taken-fits = omega (arith, length-take held line)

  module _ (now : List ℕ) (is : now ≡ in_front holding line) where
    pub line_kept : length now ≡ limit
    line_kept = taken.line_kept chunk line held from now is ∙ a.long

    -- the chunk ended before the line
    pub answering-rest : (answer : LineStep) → answer ≡ step_answer from (drop from chunk) (length holding) → answer.next ≡ None
        → Answered limit before chunk old out at now answer.held
    answering-rest answer e g =
        let past = answers-more from (drop from chunk) (length holding) answer e g in
        let count = answers-held from (drop from chunk) (length holding) answer e in
        let t = step-more (length line) (take held line) (drop from chunk) taken-fits past in
        finish (rw (sym a.long) t.0) holding now answer.held (rw (sym a.long) t.1) count (front-is answer.held holding _ now count is)

    -- the line ended
    module _ (answer : LineStep) (e : answer ≡ step_answer from (drop from chunk) (length holding)) (next : ℕ) (g : answer.next ≡ Some next) where
      abbrev n : ℕ
      n = answer.held

      step : (line_end (drop from chunk) < length (drop from chunk)) × (next ≡ from + line_end (drop from chunk) + 1)
      step = taken.ended chunk line held from now is answer e next g

      line-is : take n now ≡ holding
      line-is = front-is n holding _ now (taken.line-held chunk line held from now is answer e) is

      -- and its answer was put behind the others
      pub answering-more : (part : List ℕ) → part ≡ in_front (bench_line (take n now)) (take (length out - at) (drop at out)) → (put : ℕ) → put ≡ length (bench_line (take n now))
          → Answering limit before chunk old (take at out ++ (part ++ drop (length out - at) (drop at out))) (at + put) now 0 next
      answering-more part p put c =
          let t = step-ended (length line) (take held line) (drop from chunk) taken-fits step.0 in
          let k : from + (line_end (drop from chunk) + 1) ≡ next = omega (arith, step.1) in
          let left : drop (line_end (drop from chunk) + 1) (drop from chunk) ≡ drop next chunk = drop-drop _ from chunk ∙ ap (λ (j : ℕ). drop j chunk) k in
          let more : bench_lines (a.answered ++ (holding ∷ [])) ≡ bench_lines a.answered ++ bench_line (take n now) =
          lines_more a.answered holding ∙ ap (λ (l : List ℕ). bench_lines a.answered ++ bench_line l) (sym line-is) in
          record {
            answered = a.answered ++ (holding ∷ []);
            ended = a.ended ∙ ap (λ (ls : List (List ℕ)). a.answered ++ ls) (rw (sym a.long) (t.0 ∙ ap (λ (l : List ℕ). holding ∷ ended_in (length line) [] l) left))
                ∙ sym (append_assoc a.answered (holding ∷ []) (ended_in limit [] (drop next chunk)));
            holds = a.holds ∙ rw (sym a.long) (t.1 ∙ ap (held_in (length line) []) left);
            filling = rw more
                (filling-more a.filling (bench_line (take n now)) part p put c (line-fits (take n now)) next (omega (arith, step.1))
                (omega (arith, step.0, step.1, length-drop from chunk)));
            long = line_kept;
            inside = omega arith;
          }

-- what is in front after a chunk
module _ {limit : ℕ} {before chunk old out : List ℕ} {written : ℕ} {line : List ℕ} {held : ℕ} (a : Answered limit before chunk old out written line held) where
  pub written-fits : written ≤ length out
  written-fits = front_fits written (bench_lines (ended_in limit before chunk)) _ out a.count a.front

  pub written-long : written ≡ length (take written out)
  written-long = front_long written (bench_lines (ended_in limit before chunk)) _ out a.count a.front

  pub held_fits : held ≤ length line
  held_fits = omega (arith, ap length a.holds, length-take held line, a.held-count)

-- a read's answer, by what is in it
pub answer-is : {answer : Result (Option ℕ) ReadFailed} {given got : Option ℕ} → answer ≡ Ok given → given ≡ got → answer ≡ Ok got
answer-is e d = e ∙ ap (λ (g : Option ℕ). Ok g) d

-- the bytes that a turn got were answered
pub turn-answered : (answer : Result (Option ℕ) ReadFailed) (held : ℕ) (chunk line₀ line out₀ out : List ℕ) (turn : ControlFlow (Result (Unit {0}) ReadFailed) Progress) (progress : Progress)
    → TurnLeaves answer held chunk line₀ line out₀ out turn → turn ≡ Continue progress
    → (got : ℕ) × Answered (length line₀) (take held line₀) (take got chunk) out₀ out progress.written line progress.held
unfolding TurnLeaves
turn-answered answer held chunk line₀ line out₀ out turn progress l g = let (got, is, a) = rw g at l in (got, a)
