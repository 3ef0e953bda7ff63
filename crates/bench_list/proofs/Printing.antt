-- However the input is cut into chunks, the run prints the answers of its lines.
use Prim.Native.Nat.{ℕ, ◌<◌}
use mathlib.Core.Path.{◌≡◌, refl, sym, ap, ap₂, ◌∙◌}
use mathlib.Core.List.{List, [], ◌∷◌, ◌++◌, map, flatten, append-nil, append_assoc}
use lib.ListN.{length, take}
use lib.Seq.{take_all, length-take-le}
use native.Mathlib.Omega.{arith}
use Rattle.std.proofs.Common.{Result, Ok, Err}
use Rattle.basis.proofs.Tests.{by-lt}
use Rattle.labels.proofs.FirstTests.{label-long}
use Rattle.lace.specs.Answer as lace
use Rattle.report.specs.Lines.{refused_line}
use Rattle.lines.specs.Lines.{lines_of}
use Rattle.lines.specs.Run.{ended_in, held_in, ended_in_all, held_in_all, last_line, run_lines}
use Rattle.lines.proofs.Splitting.{run-finds-lines}
use Rattle.streams.specs.Reading.{believed}
use Rattle.streams.specs.declared.ReadFailed.{ReadFailed}
use Rattle.bench_list.specs.Listing.{line_for, bench_line, bench_lines, held_room, printed}
use Rattle.bench_list.proofs.Reading.{lace-line}
use Rattle.bench_list.proofs.Answering.{lines-append}

-- a line over 63 bytes is refused 3
pub long-line : (line : List ℕ) → 63 < length line → bench_line line ≡ refused_line 3
unfolding line_for lace.decode_outcome
long-line line h = rw (lace-line, label-long 63 (length line) _ (omega arith) h)

-- so is what is held of it
pub held-line : (line : List ℕ) → bench_line (take held_room line) ≡ bench_line line
held-line line =
    by-lt held_room (length line)
    (λ h. long-line (take held_room line) (omega (arith, length-take-le held_room line (omega arith))) ∙ sym (long-line line (omega arith)))
    (λ h. ap bench_line (take_all held_room line h))

held-lines : (lines : List (List ℕ)) → bench_lines (map (take held_room) lines) ≡ bench_lines lines
unfolding bench_lines
held-lines [] = refl
held-lines (line ∷ lines) = ap₂ ◌++◌ (held-line line) (held-lines lines)

-- what is printed for each chunk, and for the last line
printed-is : (ending : Result (Unit {0}) ReadFailed) (held : List ℕ) (chunks : List (List ℕ))
    → printed ending held chunks ≡ bench_lines (ended_in_all held_room held chunks ++ last_line (believed ending (held_in_all held_room held chunks)))
unfolding printed ended_in_all held_in_all
printed-is ending held [] = refl
printed-is ending held (chunk ∷ chunks) =
    ap (λ (l : List ℕ). bench_lines (ended_in held_room held chunk) ++ l) (printed-is ending (held_in held_room held chunk) chunks)
    ∙ sym (lines-append (ended_in held_room held chunk) _)
    ∙ ap bench_lines (sym (append_assoc (ended_in held_room held chunk) (ended_in_all held_room (held_in held_room held chunk) chunks) _))

-- the theorem: the run over any chunks, up to the end of input, prints the answers of the lines of the whole input
pub prints-lines : (chunks : List (List ℕ)) → printed (Ok tt) [] chunks ≡ bench_lines (lines_of (flatten chunks))
unfolding run_lines
prints-lines chunks = printed-is (Ok tt) [] chunks ∙ ap bench_lines (run-finds-lines held_room (omega arith) chunks) ∙ held-lines (lines_of (flatten chunks))

-- if a read failed, it prints the same but for the answer to the bytes of a line that had not ended
pub prints-ended : (failed : ReadFailed) (chunks : List (List ℕ)) → printed (Ok tt) [] chunks ≡ printed (Err failed) [] chunks ++ bench_lines (last_line (held_in_all held_room [] chunks))
unfolding last_line
prints-ended failed chunks =
    printed-is (Ok tt) [] chunks
    ∙ lines-append (ended_in_all held_room [] chunks) _
    ∙ ap (λ (l : List ℕ). l ++ bench_lines (last_line (held_in_all held_room [] chunks))) (sym (printed-is (Err failed) [] chunks ∙ ap bench_lines (append-nil (ended_in_all held_room [] chunks))))
