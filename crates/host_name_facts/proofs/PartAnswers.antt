-- What writing and reading one part are done with.
use Prim.Native.Nat.{ℕ, ◌≤◌}
use mathlib.Core.Path.{◌≡◌, refl, ap, ◌∙◌}
use mathlib.Core.Bool.{true, false, not}
use mathlib.Core.Logic.Iff
use mathlib.Core.Logic.{◌↔◌}
use mathlib.Core.List.{List}
use lib.ListN.{length}
use borrow.Author.Tests.{ltb-false, eqb-false, not-false}
use native.Mathlib.Omega.{arith}
use Rattle.basis.specs.Tests.{both}
use Rattle.basis.specs.Codec.{Writable, Readable}
use Rattle.basis.proofs.Tests.{cases, true-not-false, both_true, both_false}
use Rattle.basis.proofs.Outcome.{passed, pass-if, pass_below, pass-equal, IsDone, after-done, both-done}
use Rattle.basis.proofs.Causes.{settled-done, absent-whole}
use Rattle.basis.proofs.Codec.{encode-settled, decode-settled}
use Rattle.ascii.specs.Ldh.{is_all_ldh, has_edge_hyphen, is_host_label}
use Rattle.ascii.specs.Prefix.{has_prefix}
use Rattle.ascii.proofs.HostLabel.{is-host, host-is}
use Rattle.labels.proofs.Causes.{some-iff}
use Rattle.lace_format.specs.Prefix.{prefix}
use Rattle.lace_encoding.specs.Encoding.{label_of}
use Rattle.lace_decoding.specs.Decoding.{text_of}
use Rattle.lace.specs.Answer as lace
use Rattle.lace_facts.specs.Codec.{codec}
use Rattle.lace_facts.proofs.Faithful.{lace-faithful}
use Rattle.host_name.specs.Parts.{has_dot}
use Rattle.host_name.specs.Answer.{part_written, lace_read, plain_read, part_read}

module _ (part : List ℕ) where
  -- LACE, given room, is done with the texts that may be written and the labels that may be read
  lace-written : IsDone (lace.encode_outcome is_host_label 63 part) ↔ Writable codec part
  lace-written = settled-done (length (label_of part)) (encode-settled codec lace-faithful 63 part (omega arith))

  lace-read : IsDone (lace.decode_outcome is_host_label 63 part) ↔ Readable codec part
  lace-read = settled-done (length (text_of part)) (decode-settled codec lace-faithful 63 part (omega arith))

  -- writing a host label is done exactly if it does not begin lq--
  pub written-host : is_host_label part ≡ true → IsDone (part_written part) ↔ (has_prefix prefix part ≡ false)
  unfolding part_written both
  written-host host = (
    λ (n, e).
        let (_, rest) = passed _ _ _ _ n e in
        let (taken, _) = passed _ _ _ _ n rest in
        cases (has_prefix prefix part) (λ has. absurd (true-not-false (both_true has host) taken)) (λ has. has),
    λ has. (length part, pass-equal 2 0 _ (length part) 0 (λ e. omega (arith, (is-host part host).some)) ∙ rw (has, host) (pass-if 16 0 _ false refl)),
  )

  -- writing any other part is done only if LACE may write it, and what LACE may write is such a part
  pub written-lace : is_host_label part ≡ false → IsDone (part_written part) → Writable codec part
  unfolding part_written
  written-lace other (n, e) =
      let (_, rest) = passed _ _ _ _ n e in
      let (_, last) = passed _ _ _ _ n rest in
      lace-written.0 (n, rw other at last)

  pub lace-is-written : Writable codec part → (is_host_label part ≡ false) × IsDone (part_written part)
  unfolding part_written
  lace-is-written w =
      let other : is_host_label part ≡ false = absent-whole (is_host_label part) Iff.rfl w.1.1.0 in
      let (n, e) = lace-written.1 w in
      (other, (n, pass-equal 2 0 _ (length part) 0 (λ z. omega (arith, (some-iff part).0 w.0)) ∙ rw (other, both_false (has_prefix prefix part)) (pass-if 16 0 _ false refl ∙ e)))

  -- reading a label that begins lq-- is done exactly if LACE may read it and its text holds no dot
  pub read-lace : has_prefix prefix part ≡ true → IsDone (part_read part) ↔ (Readable codec part × (has_dot (text_of part) ≡ false))
  unfolding part_read lace_read
  read-lace has = (
    λ (n, e).
        let (_, rest) = passed _ _ _ _ n e in
        let (first, last) = both-done (λ position. position) (lace.decode_outcome is_host_label 63 part) _ (rw has at rest) in
        (lace-read.0 first, (passed _ _ _ _ n last).0),
    λ (r, none). (
      length (text_of part),
      pass-equal 2 0 _ (length part) 0 (λ z. omega (arith, (some-iff part).0 r.0))
          ∙ rw has (after-done (λ position. position) (lace.decode_outcome is_host_label 63 part) _ (lace-read.1 r) ∙ pass-if 16 0 _ (has_dot (text_of part)) none),
    ),
  )

  -- reading any other label is done exactly if it is a host label
  pub read_plain : has_prefix prefix part ≡ false → IsDone (part_read part) ↔ (is_host_label part ≡ true)
  unfolding part_read plain_read
  read_plain has = (
    λ (n, e).
        let (some, rest) = passed _ _ _ _ n e in
        let (short, ldh-on) = passed _ _ _ _ n (rw has at rest) in
        let (ldh, edges-on) = passed _ _ _ _ n ldh-on in
        let (edges, _) = passed _ _ _ _ n edges-on in
        host-is part (record { ldh = not-false _ ldh; some = omega (arith, eqb-false (length part) 0 some); short = ltb-false 63 (length part) short; edges = edges }),
    λ host.
        let h = is-host part host in (
          length part,
          pass-equal 2 0 _ (length part) 0 (λ z. omega (arith, h.some))
              ∙ rw has (pass_below 3 0 _ 63 (length part) h.short ∙ pass-if 7 0 _ (not (is_all_ldh part)) (ap not h.ldh) ∙ pass-if 5 0 _ (has_edge_hyphen part) h.edges),
        ),
  )

  -- a part that is written or read is not empty
  pub written-some : IsDone (part_written part) → 1 ≤ length part
  unfolding part_written
  written-some (n, e) = omega (arith, eqb-false (length part) 0 (passed _ _ _ _ n e).0)

  pub read_some : IsDone (part_read part) → 1 ≤ length part
  unfolding part_read
  read_some (n, e) = omega (arith, eqb-false (length part) 0 (passed _ _ _ _ n e).0)
