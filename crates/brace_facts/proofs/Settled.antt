-- The causes of refusal settle what encoding and decoding answer.
use Prim.Native.Nat.{ℕ, ◌-◌, ◌<◌}
use mathlib.Core.Path.{◌≡◌, refl, sym, ap}
use mathlib.Core.Bool.{Bool, true, not, ◌||◌, or-true}
use mathlib.Core.Logic.{◌↔◌, ◌⊎◌, inl, inr}
use mathlib.Core.List.{List, ◌∷◌}
use lib.Dec.{ltb}
use lib.ListN.{length, drop}
use borrow.Author.Tests.{ltb-true, lt-ltb}
use native.Mathlib.Omega.{arith}
use Rattle.basis.specs.Tests.{both, first_below}
use Rattle.basis.specs.Rows.{at, AllBelow}
use Rattle.basis.specs.Causes.{whole, placed, NoCause, Settles}
use Rattle.basis.specs.Outcome.{Outcome, done, refused}
use Rattle.basis.proofs.Tests.{cases, true-not-false, both_left, both_right, both_true, ltb_iff, eqb-iff, fails-iff, first-is, first-at}
use Rattle.basis.proofs.Causes.{settle-if, settle-whole, settle-first, settle-done}
use Rattle.ascii.specs.Ldh.{is_ldh}
use Rattle.ascii.proofs.EdgeHyphen.{edges-iff}
use Rattle.utf16.specs.Units.{first_unpaired, unpaired_at}
use Rattle.labels.proofs.FirstTests.{settle-label}
use Rattle.alphabet.specs.Alphabet.{brace}
use Rattle.copying.specs.Symbols.{capital}
use Rattle.copying.proofs.Same.{same-label}
use Rattle.copying.proofs.Facts.{CopyingFacts, no-text-iff}
use Rattle.brace_format.specs.Signature.{signature, is_signed}
use Rattle.brace_symbols.specs.Encoding.{symbols_of, label_of}
use Rattle.brace_text.specs.Decoding.{text_of}
use Rattle.brace.specs.Answer.{is_too_long, encode_outcome, is_done, is_lawful, first_not_ldh, decode_outcome}
use Rattle.brace_facts.specs.Causes.{Signed, TooLong, text_causes, OutsideAt, NoText, label_causes}
use Rattle.brace_facts.specs.Codec.{codec}
use Rattle.brace_facts.proofs.Alphabet.{brace-written}
use Rattle.brace_facts.proofs.RoundTrip.{text-is}
use Rattle.brace_facts.proofs.Case.{text-small, label_small}
use Rattle.brace_facts.proofs.Hosts.{label-ldh, ldh-units, text-below}

-- tests joined, and what they test
or-iff : (a b : Bool) {A B : Type 0} → (a ≡ true) ↔ A → (b ≡ true) ↔ B → ((a || b) ≡ true) ↔ (A ⊎ B)
or-iff a b {A} {B} i j = (λ e. cases a (λ f. inl (i.0 f)) (λ f. inr (j.0 (rw f at e))), back)
  where
    back : A ⊎ B → (a || b) ≡ true
    back (inl x) = rw (i.1 x)
    back (inr y) = rw (j.1 y) (or-true a)

both_iff : (a b : Bool) {A B : Type 0} → (a ≡ true) ↔ A → (b ≡ true) ↔ B → (both a b ≡ true) ↔ (A × B)
both_iff a b i j = (λ e. (i.0 (both_left a b e), j.0 (both_right a b e)), λ p. both_true (i.1 p.0) (j.1 p.1))

long-iff : (t : List ℕ) → (is_too_long t ≡ true) ↔ TooLong t
unfolding is_too_long
long-iff t = or-iff _ _ (ltb_iff 63 (length t)) (ltb_iff 63 (length (label_of t)))

-- encoding
pub encode-settled : (capacity : ℕ) (t : List ℕ) → Settles (whole 1 (capacity < 63) ∷ text_causes t) (length (label_of t)) (encode_outcome capacity t)
unfolding encode_outcome first_unpaired
encode-settled capacity t =
    settle-whole _ 1 (ltb_iff capacity 63)
    (λ _. settle-whole _ 2 (eqb-iff (length t) 0)
    (λ _. settle-first (length t) (unpaired_at 0 t) 10
    (λ _. settle-whole _ 5 (edges-iff (label_of t))
    (λ _. settle-whole _ 3 (long-iff t)
    (λ _. settle-done (length (label_of t)))))))

-- a text may be written exactly when encoding it is done
done-is : (o : Outcome) → is_done o ≡ true → (n : ℕ) × (o ≡ done n)
unfolding is_done
done-is (done n) e = (n, refl)
done-is (refused number position) e = absurd (true-not-false e refl)

writable-iff : (t : List ℕ) → (is_done (encode_outcome 63 t) ≡ true) ↔ NoCause (text_causes t)
unfolding is_done
writable-iff t = (
  λ e. let d = done-is (encode_outcome 63 t) e in (((encode-settled 63 t).succeeds d.0).0 d.1).0.1,
  λ n. ap is_done (((encode-settled 63 t).succeeds (length (label_of t))).1 ((λ p h. omega (arith, h.1), n), refl)),
)

-- the facts that BRACE shares with other schemes that copy letters
pub copying-facts : CopyingFacts codec brace capital symbols_of (AllBelow 65536) (λ t. is_done (encode_outcome 63 t))
unfolding label_of
copying-facts = record {
  alphabet-written = brace-written;
  label_is = λ t. refl;
  label_same = λ t l. (λ s. s, λ s. s);
  text_same = λ t u. (λ s. s, λ s. s);
  writable-iff = writable-iff;
  own_row = λ l e. text-below l (ldh-units l (label-ldh (text_of l) l e));
  text-back = λ t l row w e. text-is t l row e;
  text-small = text-small;
  label_small = label_small;
}

pub lawful-iff : (l : List ℕ) → (not (is_lawful l) ≡ true) ↔ NoText l
unfolding is_lawful
lawful-iff l = no-text-iff codec brace capital symbols_of _ _ copying-facts l

-- decoding: without the signature
module _ (l : List ℕ) where
  unsigned-iff : (not (is_signed l) ≡ true) ↔ (Signed l → ⊥)
  unfolding is_signed
  unsigned-iff = fails-iff (is_signed l) (same-label brace capital brace-written signature (drop (length l - 4) l))

  abbrev is_outside : ℕ → Bool
  is_outside k = not (is_ldh (at l k))

  -- 7 holds where its test finds it
  outside-there : both (not (is_signed l)) (ltb (first_below (length l) is_outside) (length l)) ≡ true → OutsideAt l (first_below (length l) is_outside)
  outside-there e = (unsigned-iff.0 (both_left (not (is_signed l)) _ e), first-is (length l) is_outside (ltb-true _ _ (both_right (not (is_signed l)) _ e)))

  outside-only : (p : ℕ) → OutsideAt l p → (both (not (is_signed l)) (ltb (first_below (length l) is_outside) (length l)) ≡ true) × (p ≡ first_below (length l) is_outside)
  outside-only p (u, f) =
      let e = first-at (length l) is_outside p f.inside f.here f.before in
      let h : p < length l = f.inside in
      (both_true (unsigned-iff.1 u) (lt-ltb _ (length l) (omega arith)), sym e)

  pub decode-settled : (capacity : ℕ) → Settles (whole 1 (capacity < 63) ∷ label_causes l) (length (text_of l)) (decode_outcome capacity l)
  unfolding decode_outcome first_not_ldh
  decode-settled capacity =
      settle-label capacity l
      (λ _ _. settle-if _ (placed 7 (OutsideAt l)) (first_below (length l) is_outside) outside-there outside-only
      (λ _. settle-whole _ 5 (both_iff _ _ unsigned-iff (edges-iff l))
      (λ _. settle-whole _ 9 (lawful-iff l)
      (λ _. settle-done (length (text_of l))))))
