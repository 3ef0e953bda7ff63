-- Bytes compared with symbols one by one, and the label of a text by the symbols that are written for it.
use Prim.Native.Nat.{ℕ, zero, suc, ◌-◌, ◌≤◌, ◌<◌}
use mathlib.Core.Path.{◌≡◌, refl, sym, ap}
use mathlib.Core.Bool.{Bool, true, false}
use mathlib.Core.List.{List, [], ◌∷◌}
use lib.Dec.{eqb}
use lib.ListN.{length, take, drop, get_or, length-drop}
use borrow.Author.Tests.{lt-ltb, le-ltb}
use native.Mathlib.Omega.{arith}
use Rattle.basis.specs.Tests.{both}
use Rattle.std.specs.Bool.{MatchBool}
use Rattle.std.specs.List.{zip, AllWithin, HoldsAt}
use Rattle.basis.proofs.Tests.{both_true, both_false}
use Rattle.basis.specs.Outcome.{Outcome, done, refused, count_of, buffer_after}
use Rattle.basis.proofs.Parts.{front-is, front_fits}
use Rattle.alphabet.specs.Alphabet.{brace, value_of}
use Rattle.copying.proofs.Bytes.{spelled-length}
use Rattle.copying.specs.Symbols.{is_for, are_for}
use Rattle.brace_format.specs.Signature.{signature, is_signed}
use Rattle.brace_symbols.specs.Encoding.{symbols_of}
use Rattle.brace_symbols.specs.Answer.{encode_outcome}
use Rattle.brace_decoding.specs.Answer.{is_done}
use Rattle.brace_symbols.proofs.Labels.{encoded-count}

-- one symbol: a coded one by the value of the byte, a copied one by the byte
module _ (s b : ℕ) where
  pub coded-for : s < 32 → (v : ℕ) → v ≡ value_of brace b → eqb v s ≡ is_for brace s b
  unfolding is_for
  coded-for h v e = rw (lt-ltb s 32 h, e)

  pub copied-for : 32 ≤ s → eqb b s ≡ is_for brace s b
  unfolding is_for
  copied-for h = rw (le-ltb s 32 h)

pub none-for : (bytes : List ℕ) → 0 < length bytes → are_for brace [] bytes ≡ false
unfolding are_for
none-for [] h = absurd (omega arith)
none-for (b ∷ bytes) h = refl

module _ (symbols bytes : List ℕ) where
  pub lengths_differ : (length symbols ≡ length bytes → ⊥) → false ≡ are_for brace symbols bytes
  lengths_differ d = falsified (are_for brace symbols bytes) (λ e. d (spelled-length brace symbols bytes e))
    where
      falsified : (b : Bool) → (b ≡ true → ⊥) → false ≡ b
      falsified true n = absurd (n refl)
      falsified false n = refl

-- symbols and bytes in pairs: every byte is read as its symbol, or one is not
paired-for : ℕ × ℕ → Bool
paired-for p = is_for brace p.0 p.1

all-for : (symbols bytes : List ℕ) → length symbols ≡ length bytes
    → ((k : ℕ) → k < length (zip symbols bytes) → paired-for (get_or (zip symbols bytes) k (0, 0)) ≡ true) → are_for brace symbols bytes ≡ true
unfolding are_for paired-for
all-for [] [] e h = refl
all-for [] (b ∷ bytes) e h = absurd (omega arith)
all-for (s ∷ symbols) [] e h = absurd (omega arith)
all-for (s ∷ symbols) (b ∷ bytes) e h = both_true (h 0 (omega arith)) (all-for symbols bytes (omega arith) (λ k l. h (suc k) (omega arith)))

one-not-for : (symbols bytes : List ℕ) (k : ℕ) → k < length (zip symbols bytes) → paired-for (get_or (zip symbols bytes) k (0, 0)) ≡ false → are_for brace symbols bytes ≡ false
unfolding are_for paired-for both
one-not-for [] bytes k h e = absurd (omega arith)
one-not-for (s ∷ symbols) [] k h e = absurd (omega arith)
one-not-for (s ∷ symbols) (b ∷ bytes) zero h e = rw e
one-not-for (s ∷ symbols) (b ∷ bytes) (suc k) h e = rw (one-not-for symbols bytes k (omega arith) e) (both_false (is_for brace s b))

pub pairs-for : (symbols bytes : List ℕ) → length symbols ≡ length bytes → (r : Bool)
    → MatchBool r (AllWithin (λ p. is_for brace p.0 p.1 ≡ true) (zip symbols bytes) 0 (length (zip symbols bytes)))
    ((k : ℕ) × (k < length (zip symbols bytes)) × HoldsAt (λ p. is_for brace p.0 p.1 ≡ false) (zip symbols bytes) k)
    → r ≡ are_for brace symbols bytes
unfolding paired-for
pairs-for symbols bytes e true p = sym (all-for symbols bytes e (λ k h. p k (0, 0) (omega arith) h))
pairs-for symbols bytes e false p = sym (one-not-for symbols bytes p.0 p.1 (p.2 (0, 0)))

-- a label that ends with the signature has four bytes at least
pub signed-long : (l : List ℕ) → is_signed l ≡ true → 4 ≤ length l
unfolding is_signed signature
signed-long l e = omega (arith, spelled-length brace signature (drop (length l - 4) l) e, length-drop (length l - 4) l)

-- so much of a row is written by an outcome, and is compared
module _ (values old now : List ℕ) where
  written-fits : (o : Outcome) → ((n : ℕ) → o ≡ done n → n ≡ length values) → now ≡ buffer_after o values old → count_of o ≤ length now
  unfolding buffer_after count_of
  written-fits (done n) count e = front_fits n values (drop n old) now (count n refl) e
  written-fits (refused number position) count e = omega arith

  written-compared : (l : List ℕ) → 0 < length l → (o : Outcome) → ((n : ℕ) → o ≡ done n → n ≡ length values) → now ≡ buffer_after o values old
      → are_for brace (take (count_of o) now) l ≡ both (is_done o) (are_for brace values l)
  unfolding buffer_after count_of is_done both
  written-compared l some (done n) count e = ap (λ (s : List ℕ). are_for brace s l) (front-is n values (drop n old) now (count n refl) e)
  written-compared l some (refused number position) count e = none-for l some

-- the symbols of a text, as they were written
module _ (t old now : List ℕ) (answer : Outcome) (n : ℕ)
    (is : (answer ≡ encode_outcome 63 t) × (now ≡ buffer_after (encode_outcome 63 t) (symbols_of t) old)) (count : n ≡ count_of answer) where
  pub symbols-fit : n ≤ length now
  symbols-fit = rw (count, is.0) (written-fits (symbols_of t) old now (encode_outcome 63 t) (λ n e. (encoded-count t 63 n e).0) is.1)

  pub symbols-compared : (l : List ℕ) → 0 < length l → are_for brace (take n now) l ≡ both (is_done (encode_outcome 63 t)) (are_for brace (symbols_of t) l)
  symbols-compared l some = rw (count, is.0) (written-compared (symbols_of t) old now l some (encode_outcome 63 t) (λ n e. (encoded-count t 63 n e).0) is.1)
