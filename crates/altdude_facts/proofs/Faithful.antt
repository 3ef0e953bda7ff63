-- AltDUDE is faithful, and its rules of form say which labels may be read, over all lists of numbers.
use Prim.Native.Nat.{ℕ, ◌<◌}
use mathlib.Core.Path.{◌≡◌, refl, sym, ap, ◌∙◌}
use mathlib.Core.Bool.{true, not}
use mathlib.Core.Logic.Iff
use mathlib.Core.Logic.{◌↔◌, ⊎_elim}
use mathlib.Core.List.{List, [], ◌∷◌, map}
use lib.ListN.{length, length-map}
use borrow.Author.Tests.{not-false}
use native.Mathlib.Omega.{arith}
use Rattle.basis.specs.Rows.{at}
use Rattle.basis.specs.Causes.{whole, Absent, NoCause}
use Rattle.basis.specs.Codec.{Writable}
use Rattle.basis.proofs.Tests.{by-lt, true-not-false, each_at, none-iff}
use Rattle.basis.proofs.Lists.{at_map}
use Rattle.basis.proofs.Causes.{absent-whole, absent-first}
use Rattle.basis.proofs.Codec.{Faithful}
use Rattle.ascii.specs.Case.{small, SameButCase}
use Rattle.ascii.specs.Ldh.{has_edge_hyphen}
use Rattle.ascii.proofs.Case.{same-but-case, small-spelled}
use Rattle.ascii.proofs.Codec.{Ruled, read_alike}
use Rattle.ascii.proofs.EdgeHyphen.{edges-iff}
use Rattle.utf16.specs.Points.{is_text}
use Rattle.labels.proofs.Causes.{some-iff, short-iff, TextAndLabel, writable-iff}
use Rattle.altdude.specs.Symbols.{symbol_of, byte_of, is_character, first_outside}
use Rattle.altdude.specs.Encoding.{symbols_from, label_of}
use Rattle.altdude.specs.Decoding.{is_readable, text_from, text_of}
use Rattle.altdude.proofs.Digits.{digits-none}
use Rattle.altdude.proofs.DecodeLaws.{text-fits}
use Rattle.altdude_facts.specs.WellFormed.{WellFormed}
use Rattle.altdude_facts.specs.Causes.{EdgeHyphen, label_causes}
use Rattle.altdude_facts.specs.Codec.{codec}
use Rattle.altdude_facts.proofs.Bytes.{symbol-character, symbols-small, bytes-symbols, symbols-bytes}
use Rattle.altdude_facts.proofs.RoundTrip.{Readable, readable-is, readable-symbols, written-readable, written-text, read-symbols, read-text}
use Rattle.altdude_facts.proofs.Edges.{edges-symbols, edges-written}
use Rattle.altdude_facts.proofs.Label.{formed-passes, passes-formed}
use Rattle.altdude_facts.proofs.Settled.{unreadable-iff, encode-settled, decode-settled}

-- the label of the empty text
label-none : (t : List ℕ) → length t ≡ 0 → length (label_of t) ≡ 0
unfolding label_of symbols_from
label-none [] e = refl
label-none (p ∷ t) e = absurd (omega arith)

-- the texts that may be written
written-iff : (t : List ℕ) → Writable codec t ↔ (TextAndLabel t (label_of t) × Absent (whole 5 (EdgeHyphen t)))
written-iff t = writable-iff (whole 5 (EdgeHyphen t)) t (label_of t)

-- a text that is written with the symbols of a label
module _ (t l : List ℕ) (same : symbols_from 96 t ≡ map symbol_of l) where
  same_length : length (label_of t) ≡ length l
  unfolding label_of
  same_length = length-map (symbols_from 96 t) byte_of ∙ ap length same ∙ length-map l symbol_of

  same_text : text_of l ≡ t
  unfolding text_of
  same_text = ap (text_from 96 0) (sym same) ∙ written-text 96 t

  same_edges : has_edge_hyphen t ≡ has_edge_hyphen l
  same_edges = sym (edges-written 96 t) ∙ ap has_edge_hyphen same ∙ edges-symbols l

  -- if the label is well formed, the text may be written
  spelled-writable : is_text t ≡ true → WellFormed l → Writable codec t
  spelled-writable text w = (written-iff t).1 (
    record {
      some = by-lt 0 (length t) (λ h. h) (λ h. absurd (omega (arith, w.some, same_length, label-none t (omega (arith, h)))));
      text = text;
      short = omega (arith, w.short, same_length);
    },
    λ p h. ⊎_elim w.first w.last ((edges-iff l).0 (sym same_edges ∙ (edges-iff t).1 h.1)),
  )

  -- and conversely
  spelled-formed : Writable codec t → WellFormed l
  unfolding first_outside
  spelled-formed w =
      let (v, absent) = (written-iff t).0 w in
      let readable : is_readable 96 0 (map symbol_of l) ≡ true = ap (is_readable 96 0) (sym same) ∙ written-readable 96 t v.text in
      passes-formed l (record {
        some = λ e. omega (arith, v.some, ap length same_text, text-fits l);
        short = omega (arith, v.short, same_length);
        inside = (none-iff _ _).1 (each_at _ _ (characters (readable-is 96 0 (map symbol_of l) readable)));
        edges = sym same_edges ∙ absent-whole (has_edge_hyphen t) (edges-iff t) absent;
        readable = readable;
      })
    where
      characters : Readable 96 0 (map symbol_of l) → (i : ℕ) → i < length l → is_character (at l i) ≡ true
      characters r i h = symbol-character (at l i) (rw (at_map symbol_of l i h) at (readable-symbols r i (rw (length-map l symbol_of) h)))

-- what is the label of a text that may be written has its symbols
label-symbols : (t : List ℕ) → is_text t ≡ true → symbols_from 96 t ≡ map symbol_of (label_of t)
unfolding label_of
label-symbols t text = sym (symbols-bytes (symbols_from 96 t) (readable-symbols (readable-is 96 0 (symbols_from 96 t) (written-readable 96 t text))))

spelled-symbols : (t l : List ℕ) → Writable codec t → SameButCase (label_of t) l → symbols_from 96 t ≡ map symbol_of l
spelled-symbols t l w e =
    label-symbols t ((written-iff t).0 w).0.text
    ∙ sym (symbols-small (label_of t))
    ∙ ap (map symbol_of) ((same-but-case (label_of t) l).0 e)
    ∙ symbols-small l

-- a well-formed label has the symbols of its text
module _ (l : List ℕ) (w : WellFormed l) where
  formed-readable : Readable 96 0 (map symbol_of l)
  formed-readable = readable-is 96 0 (map symbol_of l) (formed-passes l w).readable

  text-symbols : symbols_from 96 (text_of l) ≡ map symbol_of l
  unfolding text_of
  text-symbols = read-symbols formed-readable ∙ digits-none 0 (map symbol_of l) refl

  formed-text : is_text (text_of l) ≡ true
  unfolding text_of
  formed-text = read-text formed-readable

  pub formed-label : label_of (text_of l) ≡ map small l
  unfolding label_of
  formed-label = ap (map byte_of) text-symbols ∙ bytes-symbols l w.characters

-- the labels that may be read are those that are well formed
pub well-formed-iff : (l : List ℕ) → NoCause (label_causes l) ↔ WellFormed l
unfolding first_outside
well-formed-iff l = (
  λ n.
      let some : length l ≡ 0 → ⊥ = λ e. omega (arith, (some-iff l).0 n.0) in
      let short = (short-iff l).0 n.1.0 in
      let inside : first_outside l ≡ length l = absent-first (length l) (λ k. not (is_character (at l k))) n.1.1.0 in
      let edges = absent-whole (has_edge_hyphen l) (edges-iff l) n.1.1.1.0 in
      let readable = not-false _ (absent-whole _ (unreadable-iff l some short inside edges) n.1.1.1.1.0) in
      passes-formed l (record { some = some; short = short; inside = inside; edges = edges; readable = readable }),
  λ w. (
    (some-iff l).1 (omega (arith, w.some)),
    (
      (short-iff l).1 (omega (arith, w.short)),
      (λ i f. true-not-false f.here (ap not (w.characters i f.inside)), (λ p h. ⊎_elim w.first w.last h.1, (λ p h. h.1 w, tt))),
    ),
  ),
)

pub altdude-faithful : Faithful codec
altdude-faithful = record {
  encoding = encode-settled;
  decoding = decode-settled;
  writable = λ l n. let w = (well-formed-iff l).0 n in spelled-writable (text_of l) l (text-symbols l w) (formed-text l w) w;
  respelled = λ l n. small-spelled (label_of (text_of l)) l (formed-label l ((well-formed-iff l).0 n));
  readable = λ t l w e. (well-formed-iff l).1 (spelled-formed t l (spelled-symbols t l w e) w);
  text-is = λ t l w e. same_text t l (spelled-symbols t l w e);
}

pub altdude-ruled : Ruled codec WellFormed
altdude-ruled = record { formed = well-formed-iff; alike = read_alike codec altdude-faithful (λ l m. Iff.rfl) (λ t u. Iff.rfl) }
