-- The counts that the C interface answers: at most 63 bytes of a label, at most 252 of a text, so
-- that no count is taken for a refusal.
use Prim.Native.Nat.{ℕ, ◌≤◌}
use mathlib.Core.Path.{◌≡◌, refl}
use mathlib.Core.List.{List}
use native.Mathlib.Omega.{arith}
use Rattle.basis.specs.Outcome.{Outcome, done, refused, count_of}
use Rattle.basis.proofs.Codec.{decode-settled}
use Rattle.utf16.specs.Bytes.{points_of}
use Rattle.utf16.proofs.RoundTrip.{length-bytes_of}
use Rattle.scheme.specs.Naming.{number_names, scheme_named}
use Rattle.scheme.specs.Coding.{codec_of, text_of}
use Rattle.scheme.proofs.Coding.{faithful, writable-text, decoded-short}
use Rattle.firmware.specs.Answer.{write_outcome, written_label, read_outcome, read_text}
use Rattle.firmware.proofs.Settled.{write-settled, read-settled}

-- a bound on the count of what is done bounds every outcome's, since a refusal's is 0
count_most : (bound : ℕ) (outcome : Outcome) → ((n : ℕ) → outcome ≡ done n → n ≤ bound) → count_of outcome ≤ bound
unfolding count_of
count_most bound (done n) h = h n refl
count_most bound (refused number position) h = omega arith

pub write-few : (number capacity : ℕ) (bytes : List ℕ) → count_of (write_outcome number capacity bytes) ≤ 63
unfolding written_label
write-few number capacity bytes =
    count_most 63 _ (λ n e.
    let q = ((write-settled number capacity bytes).succeeds n).0 e in
    omega (arith, q.1, (writable-text (scheme_named (number_names number)) (points_of bytes) q.0.1.1.1.1.1.1).short))

pub write-fits : (number capacity : ℕ) (bytes : List ℕ) → count_of (write_outcome number capacity bytes) ≤ 252
write-fits number capacity bytes = omega (arith, write-few number capacity bytes)

pub read-few : (number capacity : ℕ) (label : List ℕ) → count_of (read_outcome number capacity label) ≤ 252
unfolding read_text
read-few number capacity label =
    let s = scheme_named (number_names number) in
    count_most 252 _ (λ n e.
    let q = ((read-settled number capacity label).succeeds n).0 e in
    let d = ((decode-settled (codec_of s) (faithful s) 63 label (omega arith)).succeeds _).1 (q.0.1.1, refl) in
    omega (arith, q.1, length-bytes_of (text_of s label), decoded-short s 63 _ label d))
