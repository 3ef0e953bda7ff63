-- The run over an input cut into any chunks finds exactly the lines of the whole input, each held as its first bytes.
use Prim.Native.Nat.{ℕ, zero, suc, ◌≤◌}
use mathlib.Core.Path.{◌≡◌, refl, sym, ap, ap₂, ◌∙◌}
use mathlib.Core.List.{List, [], ◌∷◌, ◌++◌, map, foldr, foldr-append, flatten, append-nil}
use lib.ListN.{take}
use native.Mathlib.Omega.{arith}
use Rattle.basis.proofs.Tests.{cases}
use Rattle.lines.specs.Lines.{is_line_feed, to_first, with_byte, lines_of}
use Rattle.lines.specs.Run.{held_then, ended_by, ended_in, held_in, ended_in_all, held_in_all, last_line, run_lines}
use Rattle.lines.proofs.Holding.{take-held}

-- the lines of an input that begins with some bytes of its first line
abbrev lines_after : List ℕ → List (List ℕ) → List (List ℕ)
lines_after before lines = foldr to_first lines before

after_none : (b : ℕ) (before : List ℕ) → lines_after (b ∷ before) [] ≡ (b ∷ before) ∷ []
unfolding to_first
after_none b [] = refl
after_none b (d ∷ before) = ap (to_first b) (after_none d before)

after-some : (before line : List ℕ) (lines : List (List ℕ)) → lines_after before (line ∷ lines) ≡ (before ++ line) ∷ lines
unfolding to_first
after-some [] line lines = refl
after-some (b ∷ before) line lines = ap (to_first b) (after-some before line lines)

-- the last line, held as its first bytes
last-held : (limit : ℕ) (before : List ℕ) → 1 ≤ limit → last_line (take limit before) ≡ map (take limit) (lines_after before [])
unfolding last_line
last-held zero before h = absurd (omega arith)
last-held (suc limit) [] h = refl
last-held (suc limit) (b ∷ before) h = ap (map (take (suc limit))) (sym (after_none b before))

-- a run that begins with some bytes of a line before it
run-after : (limit : ℕ) (before bytes : List ℕ)
    → ended_in (suc limit) (take (suc limit) before) bytes ++ last_line (held_in (suc limit) (take (suc limit) before) bytes) ≡ map (take (suc limit)) (lines_after before (lines_of bytes))
unfolding ended_in held_in lines_of ended_by held_then with_byte
run-after limit before [] = last-held (suc limit) before (omega arith)
run-after limit before (b ∷ bytes) =
    cases (is_line_feed b)
    (λ e. rw e
    (ap₂ ◌∷◌ (ap (take (suc limit)) (sym (append-nil before))) (run-after limit [] bytes)
    ∙ ap (map (take (suc limit))) (sym (after-some before [] (lines_of bytes)))))
    (λ e. rw (e, take-held (suc limit) before (b ∷ []))
    (run-after limit (before ++ (b ∷ [])) bytes
    ∙ ap (map (take (suc limit))) (foldr-append to_first (lines_of bytes) before (b ∷ []))))

-- a chunk that is followed by another
ended-append : (limit : ℕ) (held chunk bytes : List ℕ) → ended_in limit held (chunk ++ bytes) ≡ ended_in limit held chunk ++ ended_in limit (held_in limit held chunk) bytes
unfolding ended_in held_in ended_by
ended-append limit held [] bytes = refl
ended-append limit held (b ∷ chunk) bytes =
    ap (ended_by held b) (ended-append limit (held_then limit held b) chunk bytes)
    ∙ cases (is_line_feed b) (λ e. rw e) (λ e. rw e)

held-append : (limit : ℕ) (held chunk bytes : List ℕ) → held_in limit held (chunk ++ bytes) ≡ held_in limit (held_in limit held chunk) bytes
unfolding held_in
held-append limit held [] bytes = refl
held-append limit held (b ∷ chunk) bytes = held-append limit (held_then limit held b) chunk bytes

-- chunks make no difference
ended-all : (limit : ℕ) (held : List ℕ) (chunks : List (List ℕ)) → ended_in_all limit held chunks ≡ ended_in limit held (flatten chunks)
unfolding ended_in_all ended_in flatten
ended-all limit held [] = refl
ended-all limit held (chunk ∷ chunks) = ap (λ (l : List (List ℕ)). ended_in limit held chunk ++ l) (ended-all limit (held_in limit held chunk) chunks) ∙ sym (ended-append limit held chunk (flatten chunks))

held_all : (limit : ℕ) (held : List ℕ) (chunks : List (List ℕ)) → held_in_all limit held chunks ≡ held_in limit held (flatten chunks)
unfolding held_in_all held_in flatten
held_all limit held [] = refl
held_all limit held (chunk ∷ chunks) = held_all limit (held_in limit held chunk) chunks ∙ sym (held-append limit held chunk (flatten chunks))

-- the theorem: however the input is cut, the run finds its lines, each held as its first bytes
pub run-finds-lines : (limit : ℕ) → 1 ≤ limit → (chunks : List (List ℕ)) → run_lines limit chunks ≡ map (take limit) (lines_of (flatten chunks))
unfolding run_lines
run-finds-lines zero h chunks = absurd (omega arith)
run-finds-lines (suc limit) h chunks = rw (ended-all, held_all) (run-after limit [] (flatten chunks))
