-- Every scheme's codec is faithful, and what encoding and decoding by scheme have of it.
use Prim.Native.Nat.{ℕ, ◌≤◌, ◌<◌}
use mathlib.Core.Path.{◌≡◌, refl}
use mathlib.Core.Bool.{true}
use mathlib.Core.List.{List}
use lib.ListN.{length, get_or}
use native.Mathlib.Omega.{arith}
use Rattle.basis.specs.Outcome.{done}
use Rattle.basis.specs.Causes.{whole}
use Rattle.basis.specs.Codec.{Writable, Readable}
use Rattle.basis.proofs.Codec.{Faithful}
use Rattle.ascii.proofs.Case.{same-but-case}
use Rattle.utf16.specs.Points.{is_text}
use Rattle.utf16.proofs.Surrogates.{text_at, point-top}
use Rattle.labels.proofs.Causes.{some-iff, short-iff, TextAndLabel, writable-iff}
use Rattle.altdude.proofs.DecodeLaws as altdude
use Rattle.altdude_facts.proofs.Faithful.{altdude-faithful}
use Rattle.lace_facts.proofs.Label as lace
use Rattle.lace_facts.proofs.Faithful.{lace-faithful}
use Rattle.brace_facts.proofs.Points.{points-faithful, points-written, points-few, points-own}
use Rattle.scheme.specs.Coding.{codec_of, decode_outcome, label_of, text_of}
use Rattle.scheme.specs.declared.Scheme.{Scheme}
use Rattle.scheme.specs.declared.Scheme.TheVariants.{Altdude, Lace, Brace}

-- by scheme: its codec is faithful
pub faithful : (s : Scheme) → Faithful (codec_of s)
faithful Altdude = altdude-faithful
faithful Lace = lace-faithful
faithful Brace = points-faithful

-- a text that may be written has one point or more and a label of at most 63 bytes
pub writable-text : (s : Scheme) (t : List ℕ) → Writable (codec_of s) t → TextAndLabel t (label_of s t)
writable-text Altdude t w = ((writable-iff (whole 5 _) t _).0 w).0
writable-text Lace t w = ((writable-iff (whole 6 _) t _).0 w).0
writable-text Brace t w = points-written t w

-- a label that may be read has 1 to 63 bytes
readable-long : (s : Scheme) (l : List ℕ) → Readable (codec_of s) l → (1 ≤ length l) × (length l ≤ 63)
readable-long Altdude l r = ((some-iff l).0 r.0, (short-iff l).0 r.1.0)
readable-long Lace l r = ((some-iff l).0 r.0, (short-iff l).0 r.1.0)
readable-long Brace l r = ((some-iff l).0 r.0, (short-iff l).0 r.1.0)

-- its text has at most 63 points
text-few : (s : Scheme) (l : List ℕ) → Readable (codec_of s) l → length (text_of s l) ≤ 63
text-few Altdude l r = omega (arith, altdude.text-fits l, (readable-long Altdude l r).1)
text-few Lace l r = omega (arith, lace.text-fits l, (readable-long Lace l r).1)
text-few Brace l r = points-few (text_of Brace l) (points-faithful.writable l r)

-- the label of a text counts as its label
pub label-own : (s : Scheme) (t : List ℕ) → (codec_of s).SameLabel t (label_of s t)
label-own Altdude t = (same-but-case _ (label_of Altdude t)).1 refl
label-own Lace t = (same-but-case _ (label_of Lace t)).1 refl
label-own Brace t = points-own t

-- the label of a text that may be written has one byte or more
pub label-some : (s : Scheme) (t : List ℕ) → Writable (codec_of s) t → 1 ≤ length (label_of s t)
label-some s t w = (readable-long s (label_of s t) ((faithful s).readable t (label_of s t) w (label-own s t))).0

-- what is decoded: its text may be written, and has at most 63 points
module _ (s : Scheme) (capacity n : ℕ) (l : List ℕ) (e : decode_outcome s capacity l ≡ done n) where
  pub decoded-readable : Readable (codec_of s) l
  decoded-readable = ((((faithful s).decoding capacity l).succeeds n).0 e).0.1

  pub decoded-count : n ≡ length (text_of s l)
  decoded-count = ((((faithful s).decoding capacity l).succeeds n).0 e).1

  pub decoded-writable : Writable (codec_of s) (text_of s l)
  decoded-writable = (faithful s).writable l decoded-readable

  pub decoded-text : is_text (text_of s l) ≡ true
  decoded-text = (writable-text s (text_of s l) decoded-writable).text

  pub decoded-short : length (text_of s l) ≤ 63
  decoded-short = text-few s l decoded-readable

  -- so each of its points is at most 10FFFF hex
  pub decoded-low : (i : ℕ) → i < length (text_of s l) → get_or (text_of s l) i 0 ≤ 0x10ffff
  decoded-low i h = point-top _ (text_at (text_of s l) i decoded-text h)
