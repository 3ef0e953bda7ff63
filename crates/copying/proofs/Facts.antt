-- A codec that copies letters with their case: the facts from which the demands follow.
use Prim.Native.Nat.{ℕ, ◌<◌}
use mathlib.Core.Path.{◌≡◌, sym, ap, ◌∙◌}
use mathlib.Core.Bool.{Bool, true, not}
use mathlib.Core.Logic.{◌↔◌}
use mathlib.Core.List.{List, ◌∷◌, map}
use lib.ListN.{length, length-map}
use Rattle.basis.specs.Tests.{both}
use Rattle.basis.specs.Causes.{whole, Settles}
use Rattle.basis.specs.Codec.{Codec, Writable, Readable}
use Rattle.basis.proofs.Tests.{cases, both_left, both_right, both_true, true-not-false}
use Rattle.basis.proofs.Codec.{Faithful}
use Rattle.ascii.specs.Case.{small, SameButCase}
use Rattle.ascii.specs.Ldh.{has_edge_hyphen}
use Rattle.ascii.proofs.Case.{same-but-case}
use Rattle.ascii.proofs.Codec.{ReadAlike}
use Rattle.ascii.proofs.EdgeHyphen.{edges-map, small-keeps-hyphen}
use Rattle.copying.specs.Symbols.{bytes_of, are_for, SameLabel, Written}
use Rattle.copying.proofs.Same.{same-label, bytes-spell, spelled-small}
use borrow.Author.Tests.{not-true}

-- what goes with the small form goes with case
with-case : (g : List ℕ → List ℕ) → ((x : List ℕ) → map small (g (map small x)) ≡ map small (g x)) → (x y : List ℕ) → map small x ≡ map small y → map small (g x) ≡ map small (g y)
with-case g h x y e = sym (h x) ∙ ap (λ (z : List ℕ). map small (g z)) e ∙ h y

module _ (c : Codec) (alphabet : List ℕ) (form : ℕ → ℕ) (symbols_of : List ℕ → List ℕ) where
  -- the facts about a codec that copies letters, over its symbols: a label is the bytes of the text's
  -- symbols, and bytes count as the label of a text if they are read as its symbols; a Bool test says
  -- which texts may be written; a label that is read as the symbols of its own text has a text of the
  -- right kind, and a label of a text that may be written is read to that text; the small form of a
  -- text or label depends on the small form of the other alone
  pub record CopyingFacts (IsRow : List ℕ → Type 0) (is_writable : List ℕ → Bool) : Type 0 where
    pub alphabet-written : Written alphabet form
    pub label_is : (t : List ℕ) → c.label_of t ≡ bytes_of alphabet form (symbols_of t)
    pub label_same : (t l : List ℕ) → c.SameLabel t l ↔ (IsRow t × SameLabel alphabet form (symbols_of t) l)
    pub text_same : (t u : List ℕ) → c.SameText t u ↔ SameButCase t u
    pub writable-iff : (t : List ℕ) → (is_writable t ≡ true) ↔ Writable c t
    pub own_row : (l : List ℕ) → are_for alphabet (symbols_of (c.text_of l)) l ≡ true → IsRow (c.text_of l)
    pub text-back : (t l : List ℕ) → IsRow t → Writable c t → are_for alphabet (symbols_of t) l ≡ true → c.text_of l ≡ t
    pub text-small : (l : List ℕ) → map small (c.text_of (map small l)) ≡ map small (c.text_of l)
    pub label_small : (t : List ℕ) → map small (c.label_of (map small t)) ≡ map small (c.label_of t)

  module _ (IsRow : List ℕ → Type 0) (is_writable : List ℕ → Bool) (f : CopyingFacts IsRow is_writable) where
    -- the bytes are read to a text that may be written and has this label
    abbrev pub is_own : List ℕ → Bool
    is_own l = both (is_writable (c.text_of l)) (are_for alphabet (symbols_of (c.text_of l)) l)

    -- bytes that count as the label of a text
    module _ (t l : List ℕ) (same : c.SameLabel t l) where
      pub same-spelled : are_for alphabet (symbols_of t) l ≡ true
      same-spelled = (same-label alphabet form f.alphabet-written (symbols_of t) l).1 ((f.label_same t l).0 same).1

      pub same_text : Writable c t → c.text_of l ≡ t
      same_text w = f.text-back t l ((f.label_same t l).0 same).0 w same-spelled

      -- differ from the one that is written at most in case
      same-small : map small (c.label_of t) ≡ map small l
      same-small = ap (map small) (f.label_is t) ∙ spelled-small alphabet form f.alphabet-written (symbols_of t) l same-spelled

      pub same_length : length (c.label_of t) ≡ length l
      same_length = sym (length-map (c.label_of t) small) ∙ ap length same-small ∙ length-map l small

      pub same_edges : has_edge_hyphen (c.label_of t) ≡ has_edge_hyphen l
      same_edges =
          sym (edges-map small small-keeps-hyphen (c.label_of t)) ∙ ap has_edge_hyphen same-small ∙ edges-map small small-keeps-hyphen l

      own-if : Writable c t → is_own l ≡ true
      own-if w = rw (same_text w) (both_true ((f.writable-iff t).1 w) same-spelled)

    own_writable : (l : List ℕ) → is_own l ≡ true → Writable c (c.text_of l)
    own_writable l e = (f.writable-iff (c.text_of l)).0 (both_left _ (are_for alphabet (symbols_of (c.text_of l)) l) e)

    own_same : (l : List ℕ) → is_own l ≡ true → c.SameLabel (c.text_of l) l
    own_same l e =
        let s = both_right (is_writable (c.text_of l)) (are_for alphabet (symbols_of (c.text_of l)) l) e in
        (f.label_same (c.text_of l) l).1 (f.own_row l s, (same-label alphabet form f.alphabet-written (symbols_of (c.text_of l)) l).0 s)

    -- the bytes that are written count as the label
    pub written_same : (t : List ℕ) → IsRow t → c.SameLabel t (c.label_of t)
    written_same t row =
        (f.label_same t _).1 (row, (same-label alphabet form f.alphabet-written (symbols_of t) _).0 (rw (f.label_is t) (bytes-spell alphabet form f.alphabet-written (symbols_of t))))

    -- bytes pass the test exactly if some text that may be written has this label
    pub no-text-iff : (l : List ℕ) → (not (is_own l) ≡ true) ↔ ((t : List ℕ) → Writable c t → c.SameLabel t l → ⊥)
    no-text-iff l = (
      λ e t w s. true-not-false (own-if t l s w) (not-true _ e),
      λ n. cases (is_own l) (λ e. absurd (n (c.text_of l) (own_writable l e) (own_same l e))) (λ e. ap not e),
    )

    -- where the causes settle the answers, a label that may be read passes the test, and the label of
    -- a text that may be written may be read, the codec is faithful
    pub faithful : ((capacity : ℕ) (t : List ℕ) → Settles (whole 1 (capacity < 63) ∷ c.text_causes t) (length (c.label_of t)) (c.encode_outcome capacity t))
        → ((capacity : ℕ) (l : List ℕ) → Settles (whole 1 (capacity < 63) ∷ c.label_causes l) (length (c.text_of l)) (c.decode_outcome capacity l))
        → ((l : List ℕ) → Readable c l → is_own l ≡ true)
        → ((t l : List ℕ) → Writable c t → c.SameLabel t l → Readable c l)
        → Faithful c
    faithful encoding decoding own readable = record {
      encoding = encoding;
      decoding = decoding;
      writable = λ l r. own_writable l (own l r);
      respelled = λ l r. own_same l (own l r);
      readable = readable;
      text-is = λ t l w s. same_text t l s w;
    }

    -- and two labels that may be read differ at most in case exactly if their texts do
    pub alike : Faithful c → ReadAlike c
    alike faith l k r q = (
      λ e. (same-but-case l k).1 (sym (respelled l r) ∙ with-case c.label_of f.label_small (c.text_of l) (c.text_of k) ((same-but-case _ _).0 ((f.text_same _ _).0 e)) ∙ respelled k q),
      λ e. (f.text_same _ _).1 ((same-but-case _ _).1 (with-case c.text_of f.text-small l k ((same-but-case l k).0 e))),
    )
      where
        respelled : (l : List ℕ) → Readable c l → map small (c.label_of (c.text_of l)) ≡ map small l
        respelled l r = same-small (c.text_of l) l (faith.respelled l r)
