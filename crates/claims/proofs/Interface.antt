-- Demand 2 at the C interface: the bytes of a text and its points say the same, so it follows from the
-- scheme's own demand.
use Prim.Native.Nat.{ℕ, ◌%◌, ◌≤◌}
use mathlib.Core.Path.{◌≡◌, refl, sym, ap, subst, ◌∙◌}
use mathlib.Core.Logic.{◌↔◌}
use mathlib.Core.List.{List}
use lib.ListN.{length}
use native.Mathlib.Omega.{arith}
use Rattle.basis.specs.Rows.{AllBelow}
use Rattle.basis.specs.Causes.{placed, Absent, NoCause}
use Rattle.basis.specs.Outcome.{done}
use Rattle.basis.specs.Codec.{Writable, Readable}
use Rattle.basis.proofs.Tests.{by-lt, true-not-false, first-before}
use Rattle.basis.proofs.Causes.{absent-first}
use Rattle.basis.proofs.Codec.{decode-settled}
use Rattle.utf16.specs.Units.{unpaired_at, first_unpaired}
use Rattle.utf16.specs.Bytes.{units_of_bytes, points_of, bytes_of}
use Rattle.utf16.specs.Causes.{UnpairedAt}
use Rattle.utf16.proofs.RoundTrip.{some-to_units, length-bytes_of, length-bytes_of-units, paired-bytes_of, points_of-bytes_of, bytes_of-points_of}
use Rattle.scheme.specs.Naming.{number_names, scheme_named}
use Rattle.scheme.specs.Coding.{codec_of, text_of}
use Rattle.scheme.proofs.Naming.{zero-is-one}
use Rattle.scheme.proofs.Coding.{faithful, label-some, writable-text, decoded-short}
use Rattle.scheme.specs.declared.Scheme.{Scheme}
use Rattle.firmware.specs.Answer.{write_outcome, written_label, read_outcome, read_text}
use Rattle.firmware.specs.Causes.{bytes_causes}
use Rattle.firmware.proofs.Settled.{write-settled, read-settled}
use Rattle.claims.specs.Demands.{WritesBytes, ReadsBytes, MayWrite, SameLabelBy, MeanTheSame, Demand2AtInterface}
use Rattle.claims.proofs.CodecDemands.{settled-leaves}

-- a text may be written under a scheme exactly if its bytes may
module _ (s : Scheme) where
  bytes-free : (t : List ℕ) → length t ≤ 63 → Writable (codec_of s) t → NoCause (bytes_causes s (bytes_of t))
  unfolding first_unpaired
  bytes-free t few w =
      let text = writable-text s t w in
      let long = length-bytes_of-units t in
      let us = units_of_bytes (bytes_of t) in
      let paired : Absent (placed 10 (UnpairedAt us)) =
      λ i f. true-not-false f.here (first-before (length us) (unpaired_at 0 us) i (rw (paired-bytes_of t text.text) f.inside)) in (
        (λ p h. omega (arith, h.1)),
        (
          (λ p h. omega (arith, h.1, some-to_units t, text.some)),
          (
            (λ p h. omega (arith, h.1, length-bytes_of t)),
            (paired, rw (points_of-bytes_of t text.text) w),
          ),
        ),
      )

  bytes_back : (bytes : List ℕ) → AllBelow 256 bytes → NoCause (bytes_causes s bytes) → bytes_of (points_of bytes) ≡ bytes
  unfolding first_unpaired
  bytes_back bytes below free =
      let even : length bytes % 2 ≡ 0 = by-lt (length bytes % 2) 1 (λ h. omega arith) (λ h. absurd (free.0 0 (refl, omega arith))) in
      bytes_of-points_of bytes below even (absent-first _ _ free.1.1.1.0)

-- a label that may be read has a text of at most 63 points
text-few : (s : Scheme) (l : List ℕ) → Readable (codec_of s) l → length (text_of s l) ≤ 63
text-few s l r = decoded-short s 63 _ l (((decode-settled (codec_of s) (faithful s) 63 l (omega arith)).succeeds _).1 (r, refl))

module _ (number : ℕ) where
  abbrev s : Scheme
  s = scheme_named (number_names number)

  writes_label : (buffer bytes l : List ℕ) → 63 ≤ length buffer → WritesBytes number buffer bytes l ↔ (MayWrite number bytes × (l ≡ written_label number bytes))
  writes_label buffer bytes l room =
      let leaves = settled-leaves (written_label number bytes) buffer l (write-settled number (length buffer) bytes) in
      (λ r. let q = leaves.0 r in ((q.0.0, q.0.1.1), q.1), λ p. leaves.1 ((p.0.0, ((λ _ h. omega (arith, h.1)), p.0.1)), p.1))

  reads-back : (buffer l bytes : List ℕ) → 252 ≤ length buffer → AllBelow 256 bytes
      → ReadsBytes number buffer l bytes ↔ (MayWrite number bytes × SameLabelBy number bytes l)
  unfolding read_text
  reads-back buffer l bytes room below =
      let leaves = settled-leaves (read_text number l) buffer bytes (read-settled number (length buffer) l) in
      let f = faithful s in (
        λ r.
            let q = leaves.0 r in
            let w = f.writable l q.0.1.1 in
            let t = text_of s l in
            rw q.1 (
              (q.0.0, bytes-free s t (text-few s l q.0.1.1) w),
              subst (λ (u : List ℕ). (codec_of s).SameLabel u l) (sym (points_of-bytes_of t (writable-text s t w).text)) (f.respelled l q.0.1.1),
            ),
        λ p.
            let w = p.0.1.1.1.1.1 in
            let text = f.text-is (points_of bytes) l w p.1 in
            leaves.1 ((p.0.0, ((λ _ h. omega (arith, h.1)), f.readable (points_of bytes) l w p.1)), sym (ap bytes_of text ∙ bytes_back s bytes below p.0.1)),
      )

-- the counts of both functions are 1 or more
pub written-some : (number capacity : ℕ) (bytes : List ℕ) (n : ℕ) → write_outcome number capacity bytes ≡ done n → 1 ≤ n
unfolding written_label
written-some number capacity bytes n e =
    let q = ((write-settled number capacity bytes).succeeds n).0 e in
    omega (arith, q.1, label-some (scheme_named (number_names number)) (points_of bytes) q.0.1.1.1.1.1.1)

pub read_some : (number capacity : ℕ) (l : List ℕ) (n : ℕ) → read_outcome number capacity l ≡ done n → 1 ≤ n
unfolding read_text
read_some number capacity l n e =
    let s = scheme_named (number_names number) in
    let q = ((read-settled number capacity l).succeeds n).0 e in
    let t = text_of s l in
    omega (arith, q.1, length-bytes_of-units t, some-to_units t, (writable-text s t ((faithful s).writable l q.0.1.1)).some)

zero-means-one : MeanTheSame 0 1
unfolding write_outcome written_label read_outcome read_text
zero-means-one = record {
  writing = λ capacity bytes. rw zero-is-one;
  label = λ bytes. rw zero-is-one;
  reading = λ capacity l. rw zero-is-one;
  text = λ l. rw zero-is-one;
}

pub at-interface : Demand2AtInterface
at-interface = record {
  encoding = write-settled;
  decoding = read-settled;
  writing = λ number buffer bytes l h. writes_label number buffer bytes l (omega (arith, h));
  reading = λ number buffer l bytes h. reads-back number buffer l bytes (omega (arith, h));
  house_default = zero-means-one;
}
