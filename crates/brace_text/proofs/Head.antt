-- The head of a body: its number, quintet by quintet, and its style.
use Prim.Native.Nat.{ℕ, zero, suc, ◌+◌, ◌-◌, ◌*◌, ◌%◌, ◌^◌, ◌≤◌, ◌<◌, min}
use mathlib.Core.Path.{◌≡◌, refl, sym, ap, ◌∙◌}
use mathlib.Core.List.{List, [], ◌∷◌, ◌++◌}
use lib.Arith.{digits_lt}
use lib.ListN.{length, drop, get_or, take}
use lib.Pow.{pow-add, pow_mono}
use lib.Seq.{drop-cons}
use native.Mathlib.Numerals.{add-one}
use native.Mathlib.Omega.{arith}
use Rattle.basis.specs.Tests.{both, within, first_below}
use Rattle.basis.specs.Outcome.{done, refused, buffer_after}
use Rattle.basis.proofs.Outcome.{done-leaves, stop-below, pass_below}
use Rattle.ascii.specs.Case.{is_capital, small}
use Rattle.alphabet.specs.Alphabet.{brace, value_of}
use Rattle.copying.specs.Symbols.{quintet_of, head_number}
use Rattle.copying.specs.declared.Mode.TheVariants.{Coded}
use Rattle.brace_text.specs.Decoding.{text_from, head_length, head_spare, head_style, text_by, kind_of, body_text}
use Rattle.brace_format.specs.declared.style.Style.{Style}
use Rattle.brace_text.specs.Answer.{body_outcome}

-- a body of no bytes
pub empty_kind : (body : List ℕ) → length body ≡ 0 → 0 ≡ kind_of body
unfolding kind_of quintet_of value_of brace small is_capital within both first_below
empty_kind [] e = refl
empty_kind (b ∷ body) e = absurd (omega arith)

-- of a head the bytes before i are in the number
pub record Counted (head : List ℕ) (number i : ℕ) : Type 0 where
  pub left : head_number brace (length head - i) number (drop i head) ≡ head_number brace (length head) 0 head
  pub fits : number < 2 ^ (5 * i)

pub counted_start : (head : List ℕ) → Counted head 0 0
counted_start head = let m : length head - 0 ≡ length head = omega arith in record { left = rw m; fits = omega arith }

module _ {head : List ℕ} {number i : ℕ} (p : Counted head number i) where
  pub number_small : length head ≤ 3 → i < length head → number < 1024
  number_small h g = let k : 5 * i ≤ 10 = omega arith in let l : 2 ^ (5 * i) ≤ 1024 = pow_mono k in omega (arith, p.fits)

  pub counted-turn : i < length head → (q : ℕ) → q ≡ quintet_of brace (get_or head i 0) → q < 32 → Counted head (number * 32 + q) (i + 1)
  unfolding head_number
  counted-turn h q e s =
      let m : length head - i ≡ suc (length head - (i + 1)) = omega arith in
      let k : 5 * (i + 1) ≡ 5 * i + 5 = omega arith in
      record {
        left = rw (e, ← p.left, m, drop-cons head i 0 h, add-one);
        fits = rw (k, pow-add 2 (5 * i) 5) (digits_lt p.fits s);
      }

  pub counted-all : length head ≤ i → number ≡ head_number brace (length head) 0 head
  unfolding head_number
  counted-all h = let m : length head - i ≡ 0 = omega arith in sym (sym p.left ∙ rw m)

-- a body is split where its head ends, or at its own end if that is before
pub head-front : (n m x : ℕ) (body : List ℕ) → m ≡ min n (length body) → head_number brace (length (take m body)) x (take m body) ≡ head_number brace n x body
unfolding head_number
head-front zero zero x body e = refl
head-front zero (suc m) x body e = absurd (omega arith)
head-front (suc n) zero x [] e = refl
head-front (suc n) (suc m) x [] e = absurd (omega arith)
head-front (suc n) zero x (b ∷ body) e = absurd (omega arith)
head-front (suc n) (suc m) x (b ∷ body) e = head-front n m (x * 32 + quintet_of brace b) body (omega arith)

pub head-rest : (n m : ℕ) (body : List ℕ) → m ≡ min n (length body) → drop m body ≡ drop n body
head-rest zero zero body e = refl
head-rest zero (suc m) body e = absurd (omega arith)
head-rest (suc n) zero [] e = refl
head-rest (suc n) (suc m) [] e = refl
head-rest (suc n) zero (b ∷ body) e = absurd (omega arith)
head-rest (suc n) (suc m) (b ∷ body) e = head-rest n m body (omega arith)

-- the text of a body by its parts, as they were read one after the other
pub body-read : (body head rest : List ℕ) (kind n m number spare p : ℕ) (s : Style) → kind ≡ kind_of body → n ≡ head_length kind → m ≡ min n (length body)
    → head ≡ take m body → rest ≡ drop m body → number ≡ head_number brace (length head) 0 head
    → spare ≡ head_spare kind → s ≡ head_style kind number → p ≡ 2 ^ spare → text_from s Coded spare (number % p) rest ≡ body_text body
unfolding body_text text_by
body-read body head rest kind n m number spare p s ek en em eh er ex es et ep =
    let all : number ≡ head_number brace n 0 body = ex ∙ rw eh (head-front n m 0 body em) in
    rw (er, head-rest n m body em, ep, et, es, all, en, ek)

-- too little room is refused, and given the room the text of a body is left
pub body_refused : (capacity : ℕ) (body : List ℕ) → capacity < length body → body_outcome capacity body ≡ refused 1 0
unfolding body_outcome
body_refused capacity body h = stop-below 1 0 _ capacity (length body) h

pub body-leaves : (body old now : List ℕ) (n : ℕ) → length body ≤ length old → (n ≡ length (body_text body)) × (now ≡ body_text body ++ drop (length (body_text body)) old)
    → (done n ≡ body_outcome (length old) body) × (now ≡ buffer_after (body_outcome (length old) body) (body_text body) old)
unfolding body_outcome
body-leaves body old now n room p =
    done-leaves (body_outcome (length old) body) (body_text body) old now n (pass_below 1 0 _ (length old) (length body) room ∙ ap done (sym p.0)) (rw p.0 p.1)
