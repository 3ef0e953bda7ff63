-- What the C interface answers and leaves for a line, in the terms of what is printed.
use Rattle.std.proofs.Common.{Some}
use Prim.Native.Nat.{ℕ, ◌+◌, ◌-◌, ◌≤◌, ◌<◌}
use mathlib.Core.Path.{◌≡◌, refl, ap, ◌∙◌}
use mathlib.Core.List.{List, ◌++◌}
use lib.ListN.{length, take, drop}
use native.Mathlib.Omega.{arith}
use Rattle.basis.specs.Outcome.{Outcome, done, refused, refused_if, and_then, buffer_after}
use Rattle.basis.proofs.Parts.{front-is, front_fits, front_long}
use Rattle.utf16.specs.Bytes.{points_of, bytes_of}
use Rattle.utf16.specs.Answer.{bytes_to_points_outcome}
use Rattle.utf16.proofs.RoundTrip.{length-bytes_of, points_of-bytes_of}
use Rattle.utf16.proofs.Refusals.{text-bytes-done}
use Rattle.scheme.specs.Coding.{decode_outcome, text_of}
use Rattle.scheme.specs.Naming.{row_of, schemes, number_of, first_with, own_number_names, number_names, is_known, scheme_named}
use Rattle.scheme.specs.declared.Scheme.TheVariants.{Lace}
use Rattle.scheme.proofs.Coding.{decoded-text, decoded-short}
use Rattle.firmware.specs.Answer.{answer_of, read_by, read_outcome, read_text}
use Rattle.report.specs.Lines.{points_line, refused_line}
use Rattle.bench_list.specs.Listing.{line_for, scheme_number, bench_line}

-- the scheme that is asked for is LACE
asks-lace : number_names scheme_number ≡ Some Lace
unfolding number_names own_number_names first_with schemes number_of row_of
asks-lace = refl

module _ (label : List ℕ) where
  read_is : read_outcome scheme_number 252 label ≡ and_then (λ p. p) (decode_outcome Lace 63 label) (done (length (bytes_of (text_of Lace label))))
  unfolding read_outcome is_known scheme_named read_by refused_if
  read_is = rw asks-lace

  text-is : read_text scheme_number label ≡ bytes_of (text_of Lace label)
  unfolding read_text scheme_named
  text-is = rw asks-lace

  -- what is printed is what LACE reads the line as
  pub lace-line : bench_line label ≡ line_for (decode_outcome Lace 63 label) (text_of Lace label)
  unfolding bench_line line_for and_then
  lace-line = rw (read_is, text-is) (by (decode_outcome Lace 63 label) refl)
    where
      by : (outcome : Outcome) → decode_outcome Lace 63 label ≡ outcome
          → line_for (and_then (λ p. p) outcome (done (length (bytes_of (text_of Lace label))))) (points_of (bytes_of (text_of Lace label))) ≡ line_for outcome (text_of Lace label)
      by (done n) e = ap points_line (points_of-bytes_of (text_of Lace label) (decoded-text Lace 63 n label e))
      by (refused number position) e = refl

  -- the interface's answer, and the text's buffer that was old and is now
  module _ (answer : ℕ) (old now : List ℕ) (a : answer ≡ answer_of (read_outcome scheme_number 252 label))
      (b : now ≡ buffer_after (read_outcome scheme_number 252 label) (read_text scheme_number label) old) where
    -- so many bytes in front of the buffer are those of the text, whose points are printed
    pub record WasRead : Type 0 where
      pub inside : answer ≤ length now
      pub long : answer ≡ length (take answer now)
      pub few : answer ≤ 252
      pub converted : bytes_to_points_outcome (take answer now) 126 ≡ done (length (points_of (take answer now)))
      pub line : points_line (points_of (take answer now)) ≡ bench_line label

    was_read : (n : ℕ) → decode_outcome Lace 63 label ≡ done n → WasRead
    unfolding answer_of and_then buffer_after line_for
    was_read n e =
        let t = decoded-text Lace 63 n label e in
        let text = text_of Lace label in
        let short = decoded-short Lace 63 n label e in
        let count : answer ≡ length (bytes_of text) = a ∙ rw (read_is, e) in
        let is : now ≡ bytes_of text ++ drop (length (bytes_of text)) old = b ∙ rw (read_is, text-is, e) in
        let front : take answer now ≡ bytes_of text = front-is answer (bytes_of text) _ now count is in
        record {
          inside = front_fits answer (bytes_of text) _ now count is;
          long = front_long answer (bytes_of text) _ now count is;
          few = omega (arith, count, length-bytes_of text);
          converted = rw front (text-bytes-done text 126 t (omega arith));
          line = rw (front, points_of-bytes_of text t, lace-line, e);
        }

    was-refused : (number position : ℕ) → decode_outcome Lace 63 label ≡ refused number position → (answer ≡ 1000 + number) × (refused_line number ≡ bench_line label)
    unfolding answer_of and_then line_for
    was-refused number position e = (a ∙ rw (read_is, e), rw (lace-line, e))

    -- an answer below 1000 is of a text, any other of a refusal
    pub read_below : answer < 1000 → WasRead
    read_below h = by (decode_outcome Lace 63 label) refl
      where
        by : (outcome : Outcome) → decode_outcome Lace 63 label ≡ outcome → WasRead
        by (done n) e = was_read n e
        by (refused number position) e = absurd (omega (arith, (was-refused number position e).0))

    pub refused-from : 1000 ≤ answer → refused_line (answer - 1000) ≡ bench_line label
    refused-from h = by (decode_outcome Lace 63 label) refl
      where
        by : (outcome : Outcome) → decode_outcome Lace 63 label ≡ outcome → refused_line (answer - 1000) ≡ bench_line label
        by (done n) e = let r = was_read n e in absurd (omega (arith, r.few))
        by (refused number position) e =
            let r = was-refused number position e in
            let k : answer - 1000 ≡ number = omega (arith, r.0) in
            rw k r.1
