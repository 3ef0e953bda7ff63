-- Laws on outcomes: the tests in their turn, what a function leaves in the buffer, and the numbers of the errors.
use Prim.Native.Nat.{ℕ, suc, ◌≤◌, ◌<◌}
use mathlib.Core.Path.{◌≡◌, refl, sym, ap, ◌∙◌}
use mathlib.Core.Bool.{Bool, true, false}
use mathlib.Core.List.{List, ◌++◌}
use lib.Dec.{ltb, eqb}
use lib.ListN.{length, take, drop}
use borrow.Author.Tests.{lt-ltb, le-ltb, eq-eqb, ne_eqb}
use denote.Enum.Declared.{tag_of}
use native.Mathlib.Omega.{arith}
use Rattle.std.proofs.Common.{Result, Err}
use Rattle.std.specs.Result.{IsErr, IsErrAnd}
use Rattle.std.proofs.lemmas.Result.{err_from_is_err_and}
use Rattle.basis.specs.Outcome.{Outcome, done, refused, refused_if, and_then, buffer_after, number_of}
use Rattle.basis.specs.declared.Refusal.{Refusal}
use Rattle.basis.specs.declared.ErrorCode.{ErrorCode}
use Rattle.basis.specs.declared.ErrorCode.TheVariants.{Capacity, Empty, TooLong, NotAPoint, EdgeHyphen, HostLabel, OutsideAlphabet, NoPrefix, NotWellFormed, UnpairedSurrogate, UnknownScheme, OddByteCount, Truncated, Malformed, BadMark, AmbiguousPart}
use Rattle.basis.specs.contracts.ErrorCode.{the_type}
use Rattle.basis.proofs.Enums.{place-tells}
use Rattle.basis.proofs.Parts.{front-is, front_fits, front_long}

-- a test in its turn, by what the code tested: it stops the function, or the function goes on to what follows
module _ (number position : ℕ) (next : Outcome) where
  pub stop-if : (test : Bool) → test ≡ true → refused_if test number position next ≡ refused number position
  unfolding refused_if
  stop-if test e = rw e

  pub pass-if : (test : Bool) → test ≡ false → refused_if test number position next ≡ next
  unfolding refused_if
  pass-if test e = rw e

  -- as a function answered it
  pub stop-given : (given test : Bool) → given ≡ test → given ≡ true → refused_if test number position next ≡ refused number position
  stop-given given test is e = stop-if test (sym is ∙ e)

  pub pass-given : (given test : Bool) → given ≡ test → given ≡ false → refused_if test number position next ≡ next
  pass-given given test is e = pass-if test (sym is ∙ e)

  -- the order of two numbers
  pub stop-below : (m n : ℕ) → m < n → refused_if (ltb m n) number position next ≡ refused number position
  stop-below m n h = stop-if (ltb m n) (lt-ltb m n h)

  pub pass_below : (m n : ℕ) → n ≤ m → refused_if (ltb m n) number position next ≡ next
  pass_below m n h = pass-if (ltb m n) (le-ltb m n h)

  -- two numbers that are equal, or not
  pub stop-equal : (m n : ℕ) → m ≡ n → refused_if (eqb m n) number position next ≡ refused number position
  stop-equal m n e = stop-if (eqb m n) (eq-eqb m n e)

  pub pass-equal : (m n : ℕ) → (m ≡ n → ⊥) → refused_if (eqb m n) number position next ≡ next
  pass-equal m n d = pass-if (eqb m n) (ne_eqb m n d)

-- a capacity against the size that is needed, as the code computed it
module _ (number position : ℕ) (next : Outcome) (size needed : ℕ) (is : size ≡ needed) (capacity : ℕ) where
  pub stop-short : capacity < size → refused_if (ltb capacity needed) number position next ≡ refused number position
  stop-short h = rw (← is) (stop-below number position next capacity size h)

  pub pass-short : size ≤ capacity → refused_if (ltb capacity needed) number position next ≡ next
  pass-short h = rw (← is) (pass_below number position next capacity size h)

-- an index that a search found below the end, or did not
module _ (number end : ℕ) (next : Outcome) (found first : ℕ) (is : found ≡ first) where
  pub stop-found : found < end → refused_if (ltb first end) number first next ≡ refused number found
  stop-found h = rw (← is) (stop-below number found next found end h)

  pub pass-found : end ≤ found → refused_if (ltb first end) number first next ≡ next
  pass-found h = rw (← is) (pass_below number found next found end h)

-- a refusal as `at` made it, and an answer as a `?` handed it on
pub refusal_is : {code : ErrorCode} {position : ℕ} {refusal : Refusal} → refusal ≡ record { code = code; position = position }
    → refused (number_of refusal.code) refusal.position ≡ refused (number_of code) position
refusal_is e = ap (λ r. refused (number_of r.code) r.position) e

pub handed_on : {T : Type 0} {answer : Result T Refusal} {refusal : Refusal} → IsErr answer × IsErrAnd answer (λ r. r ≡ refusal) → answer ≡ Err refusal
handed_on {answer = answer} p = let q = err_from_is_err_and answer p.1 in q.1 ∙ ap Err q.2

-- a function that answers with its outcome, and leaves the buffer or has put the values in front
pub refused-leaves : (outcome : Outcome) (values buffer : List ℕ) (number position : ℕ) → outcome ≡ refused number position
    → (refused number position ≡ outcome) × (buffer ≡ buffer_after outcome values buffer)
unfolding buffer_after
refused-leaves outcome values buffer number position e = (sym e, rw e)

-- the same of an answer that is the refusal
pub refusal-leaves : (outcome answer : Outcome) (values buffer : List ℕ) (number position : ℕ) → answer ≡ refused number position → outcome ≡ refused number position
    → (answer ≡ outcome) × (buffer ≡ buffer_after outcome values buffer)
refusal-leaves outcome answer values buffer number position a e =
    let r = refused-leaves outcome values buffer number position e in
    (a ∙ r.0, r.1)

pub done-leaves : (outcome : Outcome) (values buffer now : List ℕ) (count : ℕ) → outcome ≡ done count → now ≡ values ++ drop count buffer
    → (done count ≡ outcome) × (now ≡ buffer_after outcome values buffer)
unfolding buffer_after
done-leaves outcome values buffer now count e b = (sym e, rw e b)

-- the same of an answer that is handed on as another function gave it
pub handed-leaves : (outcome next answer : Outcome) (values made buffer now : List ℕ) → outcome ≡ next → values ≡ made
    → (answer ≡ next) × (now ≡ buffer_after next made buffer) → (answer ≡ outcome) × (now ≡ buffer_after outcome values buffer)
handed-leaves outcome next answer values made buffer now o v given = rw (o, v) given

-- an outcome and what follows it: the outcome was refused, or was done and what follows answered
module _ (first next answer : Outcome) (values buffer : List ℕ) where
  pub and_then-refused-leaves : (number position : ℕ) → first ≡ refused number position → answer ≡ refused number position
      → (answer ≡ and_then (λ p. p) first next) × (buffer ≡ buffer_after (and_then (λ p. p) first next) values buffer)
  unfolding and_then
  and_then-refused-leaves number position e a = refusal-leaves _ answer values buffer number position a (rw e)

  pub and_then-done-leaves : (count : ℕ) (now : List ℕ) → first ≡ done count → (answer ≡ next) × (now ≡ buffer_after next values buffer)
      → (answer ≡ and_then (λ p. p) first next) × (now ≡ buffer_after (and_then (λ p. p) first next) values buffer)
  unfolding and_then
  and_then-done-leaves count now e given = rw e given

-- what is done leaves its values before the count
module _ (outcome : Outcome) (values old now : List ℕ) (n : ℕ) (is : outcome ≡ done n) (count : n ≡ length values) (left : now ≡ buffer_after outcome values old) where
  leaves : now ≡ values ++ drop n old
  unfolding buffer_after
  leaves = left ∙ rw is

  pub values-fit : n ≤ length now
  values-fit = front_fits n values (drop n old) now count leaves

  pub values-long : n ≡ length (take n now)
  values-long = front_long n values (drop n old) now count leaves

  pub values-are : take n now ≡ values
  values-are = front-is n values (drop n old) now count leaves

-- an outcome that is done is not refused, and has one count
pub done-not-refused : {outcome : Outcome} {count number position : ℕ} → outcome ≡ done count → outcome ≡ refused number position → ⊥
done-not-refused d r = let z : ◌≡◌ {A = ℕ} 0 1 = cc in omega arith

pub done-count : {outcome : Outcome} {m n : ℕ} → outcome ≡ done m → outcome ≡ done n → m ≡ n
done-count d e = cc

-- the outcome is done, with some count
abbrev pub IsDone : Outcome → Type 0
IsDone outcome = (count : ℕ) × (outcome ≡ done count)

-- after an outcome that is done, what follows is answered
pub after-done : (place : ℕ → ℕ) (outcome next : Outcome) → IsDone outcome → and_then place outcome next ≡ next
unfolding and_then
after-done place outcome next (count, e) = rw e

-- a refusal of an outcome or of what follows it, where what follows may be exchanged
pub refusal-carried : (place : ℕ → ℕ) (o : Outcome) {next other : Outcome} {number position : ℕ} → (next ≡ refused number position → other ≡ refused number position)
    → and_then place o next ≡ refused number position → and_then place o other ≡ refused number position
unfolding and_then
refusal-carried place (done n) carried e = carried e
refusal-carried place (refused k p) carried e = e

-- a refusal that is not by what follows is the same whatever follows
pub refusal-kept : (place : ℕ → ℕ) (o last next : Outcome) {count number position : ℕ} → last ≡ done count → and_then place o last ≡ refused number position → and_then place o next ≡ refused number position
refusal-kept place o last next l e = refusal-carried place o (λ r. absurd (done-not-refused l r)) e

-- an outcome and what follows it are done in turn only if both are
pub both-done : (place : ℕ → ℕ) (o next : Outcome) {n : ℕ} → and_then place o next ≡ done n → ((m : ℕ) × (o ≡ done m)) × (next ≡ done n)
unfolding and_then
both-done place (done m) next e = ((m, refl), e)
both-done place (refused k p) next e = absurd (done-not-refused e refl)

-- what follows is asked only if the outcome is done
pub and_then-same : (place : ℕ → ℕ) (o : Outcome) {next other : Outcome} → ((n : ℕ) → o ≡ done n → next ≡ other) → and_then place o next ≡ and_then place o other
unfolding and_then
and_then-same place (done n) same = same n refl
and_then-same place (refused number position) same = refl

-- what holds of the refusal where a test holds, and of what follows where it fails, holds of the test in its turn
pub by-test : (P : Outcome → Type 0) (test : Bool) (number position : ℕ) (next : Outcome) → (test ≡ true → P (refused number position)) → (test ≡ false → P next)
    → P (refused_if test number position next)
unfolding refused_if
by-test P true number position next stops passes = stops refl
by-test P false number position next stops passes = passes refl

-- what is done, no test refused
pub passed : (test : Bool) (number position : ℕ) (next : Outcome) (count : ℕ) → refused_if test number position next ≡ done count → (test ≡ false) × (next ≡ done count)
unfolding refused_if
passed true number position next count e = absurd (done-not-refused e refl)
passed false number position next count e = (refl, e)

-- an error's number is one more than its place among all, of which there are 16
pub number-place : (code : ErrorCode) → (number_of code ≡ suc (tag_of the_type code)) × (number_of code ≤ 16)
number-place Capacity = (refl, omega arith)
number-place Empty = (refl, omega arith)
number-place TooLong = (refl, omega arith)
number-place NotAPoint = (refl, omega arith)
number-place EdgeHyphen = (refl, omega arith)
number-place HostLabel = (refl, omega arith)
number-place OutsideAlphabet = (refl, omega arith)
number-place NoPrefix = (refl, omega arith)
number-place NotWellFormed = (refl, omega arith)
number-place UnpairedSurrogate = (refl, omega arith)
number-place UnknownScheme = (refl, omega arith)
number-place OddByteCount = (refl, omega arith)
number-place Truncated = (refl, omega arith)
number-place Malformed = (refl, omega arith)
number-place BadMark = (refl, omega arith)
number-place AmbiguousPart = (refl, omega arith)

-- so it tells the error
pub number-tells : (c d : ErrorCode) → number_of c ≡ number_of d → c ≡ d
number-tells c d e = place-tells the_type tt c d (omega (arith, (number-place c).0, (number-place d).0))
