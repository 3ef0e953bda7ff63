-- The causes settle what the C interface answers: it refuses exactly what it must, in order.
use Prim.Native.Nat.{ℕ}
use mathlib.Core.Path.{◌≡◌, refl}
use mathlib.Core.Bool.{not}
use mathlib.Core.List.{List}
use lib.Dec.{eqb, ltb}
use lib.ListN.{length}
use borrow.Author.Tests.{ltb-false}
use native.Mathlib.Omega.{arith}
use Rattle.basis.specs.Outcome.{Outcome, done, refused, and_then}
use Rattle.basis.specs.Causes.{Cause, Settles}
use Rattle.basis.proofs.Tests.{ltb_iff, eqb-iff}
use Rattle.basis.proofs.Outcome.{done-not-refused}
use Rattle.basis.proofs.Causes.{settle-whole}
use Rattle.basis.proofs.Codec.{encode-settled, decode-settled}
use Rattle.utf16.specs.Bytes.{units_of_bytes, points_of}
use Rattle.utf16.specs.Answer.{is_odd}
use Rattle.utf16.proofs.Refusals.{unpaired-settled}
use Rattle.scheme.specs.Naming.{number_names, is_known, scheme_named}
use Rattle.scheme.specs.Coding.{codec_of, text_of}
use Rattle.scheme.proofs.Coding.{faithful}
use Rattle.scheme.specs.declared.Scheme.{Scheme}
use Rattle.firmware.specs.Answer.{write_by, write_outcome, written_label, read_by, read_outcome, read_text}
use Rattle.firmware.specs.Causes.{write_causes, read_causes}
use Rattle.firmware.proofs.Naming.{unknown-iff}

-- the same causes settle an outcome with another count
settle-counted : {causes : List Cause} (count total : ℕ) (outcome : Outcome) → Settles causes count outcome → Settles causes total (and_then (λ p. p) outcome (done total))
unfolding and_then
settle-counted count total (refused k q) s = record {
  refuses = s.refuses;
  succeeds = λ n. (λ e. absurd (done-not-refused e refl), λ p. absurd (done-not-refused ((s.succeeds count).1 (p.0, refl)) refl));
}
settle-counted count total (done m) s = record {
  refuses = λ number p. (λ e. absurd (done-not-refused refl e), λ f. absurd (done-not-refused refl ((s.refuses number p).1 f)));
  succeeds = λ n. (λ e. (((s.succeeds m).0 refl).0, let z : n ≡ total = cc in z), λ p. let e = p.1 in cc);
}

module _ (number capacity : ℕ) where
  abbrev named : Scheme
  named = scheme_named (number_names number)

  pub write-settled : (bytes : List ℕ) → Settles (write_causes number capacity bytes) (length (written_label number bytes)) (write_outcome number capacity bytes)
  unfolding write_outcome write_by written_label is_odd
  write-settled bytes =
      settle-whole (not (is_known (number_names number))) 11 (unknown-iff number)
      (λ _. settle-whole (ltb capacity 63) 1 (ltb_iff capacity 63)
      (λ room. settle-whole (is_odd (length bytes)) 12 (eqb-iff _ 1)
      (λ _. settle-whole (eqb (length bytes) 0) 2 (eqb-iff _ 0)
      (λ _. settle-whole (ltb 252 (length bytes)) 3 (ltb_iff 252 (length bytes))
      (λ _. unpaired-settled (units_of_bytes bytes)
      (λ _. encode-settled (codec_of named) (faithful named) capacity (points_of bytes) (ltb-false capacity 63 room)))))))

  pub read-settled : (label : List ℕ) → Settles (read_causes number capacity label) (length (read_text number label)) (read_outcome number capacity label)
  unfolding read_outcome read_by read_text
  read-settled label =
      settle-whole (not (is_known (number_names number))) 11 (unknown-iff number)
      (λ _. settle-whole (ltb capacity 252) 1 (ltb_iff capacity 252)
      (λ _. settle-counted (length (text_of named label)) _ _ (decode-settled (codec_of named) (faithful named) 63 label (omega arith))))
