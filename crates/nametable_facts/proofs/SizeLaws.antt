-- Laws on the tests of the header and of the length: which bytes they look at, and when what follows
-- is asked.
use Prim.Native.Nat.{ℕ, ◌≤◌, ◌<◌}
use mathlib.Core.Path.{◌≡◌, refl, sym, ◌∙◌}
use mathlib.Core.List.{List, [], ◌∷◌}
use lib.ListN.{length, take}
use borrow.Author.Tests.{le-ltb, ne_eqb}
use native.Mathlib.Omega.{arith}
use Rattle.basis.specs.Outcome.{Outcome, done}
use Rattle.basis.proofs.Tests.{by-lt}
use Rattle.basis.proofs.Outcome.{stop-below, pass_below, and_then-same}
use Rattle.nametable_format.specs.Format.{header_length, number_at, count_of}
use Rattle.nametable.specs.Answer.{header_tests, header_outcome, length_tests}
use Rattle.nametable.proofs.TableLaws.{header-then, Header, header-done}

-- the tests on a header look at its bytes alone
pub header-front : (kind : ℕ) (t : List ℕ) (next : Outcome) → header_tests kind t next ≡ header_tests kind (take header_length t) next
unfolding header_tests count_of number_at
header-front kind [] next = refl
header-front kind (a ∷ []) next = refl
header-front kind (a ∷ b ∷ []) next = refl
header-front kind (a ∷ b ∷ c ∷ rest) next =
    let t = a ∷ b ∷ c ∷ rest in
    rw (ne_eqb (length t) 0 (λ e. omega arith), le-ltb (length t) header_length (omega arith))

-- what follows a header is asked only if it is lawful
pub header-same : (kind : ℕ) (t : List ℕ) (next other : Outcome) → (Header kind t → next ≡ other) → header_tests kind t next ≡ header_tests kind t other
unfolding header_outcome
header-same kind t next other same =
    header-then kind t next ∙ and_then-same (λ p. p) (header_outcome kind t) (λ n e. same (header-done kind t (done (count_of t)) e).0) ∙ sym (header-then kind t other)

-- two numbers of bytes that are alike against the needed one give the same; what follows is asked only
-- if the length is right
pub length-same : (total n needed : ℕ) (next other : Outcome) → (n ≤ needed → total ≡ n) → (needed < n → needed < total) → (n ≡ needed → next ≡ other)
    → length_tests total needed next ≡ length_tests n needed other
unfolding length_tests
length-same total n needed next other counts above same =
    by-lt n needed
    (λ l. stop-below 13 0 _ total needed (omega (arith, counts (omega arith))) ∙ sym (stop-below 13 0 _ n needed l))
    (λ g. by-lt needed n
    (λ l. let a = above l in pass_below 13 0 _ total needed (omega arith) ∙ stop-below 14 0 _ needed total a ∙ sym (pass_below 13 0 _ n needed g ∙ stop-below 14 0 _ needed n l))
    (λ m.
    let c = counts m in
    pass_below 13 0 _ total needed (omega arith) ∙ pass_below 14 0 _ needed total (omega arith) ∙ same (omega arith)
    ∙ sym (pass_below 13 0 _ n needed g ∙ pass_below 14 0 _ needed n m)))
