-- BRACE as a codec of units is faithful, and reads as texts that differ at most in case exactly the labels
-- that do.
use Prim.Native.Nat.{ℕ}
use mathlib.Core.Path.{◌≡◌, refl, sym, ap, ◌∙◌}
use mathlib.Core.Bool.{true, not}
use mathlib.Core.Logic.{inr}
use mathlib.Core.List.{List, [], ◌∷◌}
use lib.ListN.{length}
use borrow.Author.Tests.{not-false}
use native.Mathlib.Omega.{arith}
use Rattle.basis.specs.Causes.{whole, placed, Absent}
use Rattle.basis.specs.Codec.{Writable, Readable}
use Rattle.basis.proofs.Tests.{true-not-false, at_each}
use Rattle.basis.proofs.Causes.{absent-whole}
use Rattle.basis.proofs.Codec.{Faithful}
use Rattle.ascii.proofs.Codec.{ReadAlike}
use Rattle.ascii.proofs.EdgeHyphen.{edges-iff}
use Rattle.labels.specs.Causes.{Empty}
use Rattle.labels.specs.Causes as labels
use Rattle.alphabet.specs.Alphabet.{brace}
use Rattle.copying.specs.Symbols.{are_for, capital}
use Rattle.copying.proofs.Facts.{same-spelled, same_text, same_length, same_edges, faithful, alike}
use Rattle.brace_format.specs.Signature.{signature, is_signed}
use Rattle.brace_symbols.specs.Encoding.{symbols_of, label_of}
use Rattle.brace_text.specs.Decoding.{text_of}
use Rattle.brace.specs.Answer.{is_lawful}
use Rattle.brace_facts.specs.Causes.{Signed, EdgeHyphen, OutsideAt, SpellsUnits}
use Rattle.brace_facts.specs.Codec.{codec}
use Rattle.brace_facts.proofs.Hosts.{label-ldh}
use Rattle.brace_facts.proofs.Settled.{encode-settled, copying-facts, lawful-iff, decode-settled}

-- no bytes are read as no units
text-none : (l : List ℕ) → length l ≡ 0 → length (text_of l) ≡ 0
unfolding text_of is_signed are_for signature
text-none [] e = refl
text-none (b ∷ l) e = absurd (omega arith)

-- no cause holds against the label of a text that may be written
module _ (t l : List ℕ) (w : Writable codec t) (s : SpellsUnits t l) where
  some : Absent (whole 2 (Empty l))
  some p h = w.0 0 (refl, ap length (sym (same_text codec brace capital symbols_of _ _ copying-facts t l s w)) ∙ text-none l h.1)

  short : Absent (whole 3 (labels.TooLong l))
  short p h = w.1.1.1.0 0 (refl, inr (rw (same_length codec brace capital symbols_of _ _ copying-facts t l s) h.1))

  inside : Absent (placed 7 (OutsideAt l))
  inside i h = true-not-false h.1.here (ap not (at_each _ _ (label-ldh t l (same-spelled codec brace capital symbols_of _ _ copying-facts t l s)) i h.1.inside))

  edges : Absent (whole 5 ((Signed l → ⊥) × EdgeHyphen l))
  edges p h = w.1.1.0 0 (refl, (edges-iff (label_of t)).0 (same_edges codec brace capital symbols_of _ _ copying-facts t l s ∙ (edges-iff l).1 h.1.1))

  label-readable : Readable codec l
  label-readable = (some, (short, (inside, (edges, (λ p h. h.1 t w s, tt)))))

-- a label that may be read is lawful
readable-lawful : (l : List ℕ) → Readable codec l → is_lawful l ≡ true
readable-lawful l r = not-false _ (absent-whole _ (lawful-iff l) r.1.1.1.1.0)

pub brace-faithful : Faithful codec
unfolding is_lawful
brace-faithful = faithful codec brace capital symbols_of _ _ copying-facts encode-settled (λ capacity l. decode-settled l capacity) readable-lawful label-readable

pub brace-alike : ReadAlike codec
brace-alike = alike codec brace capital symbols_of _ _ copying-facts brace-faithful
