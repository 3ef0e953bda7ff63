-- The causes of refusal settle what encoding and decoding answer.
use Prim.Native.Nat.{ℕ, ◌+◌, ◌≤◌, ◌<◌}
use mathlib.Core.Path.{◌≡◌, refl, sym, ap, ◌∙◌}
use mathlib.Core.Bool.{true, false, not}
use mathlib.Core.Logic.Iff
use mathlib.Core.Logic.{◌↔◌}
use mathlib.Core.List.{List, ◌∷◌}
use lib.ListN.{length}
use borrow.Author.Tests.{not-false}
use Rattle.basis.specs.Rows.{at}
use Rattle.basis.specs.Causes.{whole, placed, Settles}
use Rattle.basis.proofs.Tests.{ltb_iff, fails-iff}
use Rattle.basis.proofs.Causes.{settle-whole, settle-place, settle-done}
use Rattle.ascii.specs.Prefix.{has_prefix, after_prefix}
use Rattle.labels.proofs.FirstTests.{settle-text, settle-label}
use Rattle.labels.proofs.MarkTests.{settle-marks}
use Rattle.alphabet.specs.Alphabet.{lace, is_character}
use Rattle.base32.specs.Answer.{first_outside}
use Rattle.lace_format.specs.Prefix.{prefix}
use Rattle.lace_encoding.specs.Encoding.{label_of}
use Rattle.lace_facts.proofs.PrefixRule.{prefix-iff}
use Rattle.lace_facts.specs.WellFormed.{Formed}
use Rattle.lace_decoding.specs.Decoding.{is_readable, label_units, text_of}
use Rattle.lace_encoding.specs.Answer.{label_outcome}
use Rattle.lace.specs.Answer.{encode_outcome, encode_marked_outcome, decode_outcome}
use Rattle.lace_facts.specs.Causes.{OutsideAfterPrefix, NotFormed, OnlyHostLabel, own_text_causes, text_causes, marked_text_causes, label_causes}
use Rattle.lace_facts.proofs.Label.{Passes, passes-formed, formed-units, formed-iff}
use Rattle.lace_facts.proofs.Reserved.{reserved}

-- given the earlier tests, the later ones fail exactly where their causes hold
module _ (l : List ℕ) (short : length l ≤ 63) (first : has_prefix prefix l ≡ true) (inside : first_outside lace (after_prefix prefix l) ≡ length (after_prefix prefix l)) where
  passes : is_readable l ≡ true → Passes l
  passes e = record { short = short; first = first; inside = inside; readable = e }

  readable-iff : (is_readable l ≡ true) ↔ ((units : List ℕ) × Formed l units)
  readable-iff = (λ e. (formed-iff l).0 (passes e), λ f. ((formed-iff l).1 f).readable)

  pub unreadable-iff : (not (is_readable l) ≡ true) ↔ NotFormed l
  unreadable-iff = let i = fails-iff (is_readable l) readable-iff in (λ e units f. i.0 e (units, f), λ n. i.1 (λ f. n f.0 f.1))

  pub reserved-iff : is_readable l ≡ true → (reserved (label_units l) ≡ true) ↔ OnlyHostLabel l
  reserved-iff e = (
    λ r. (label_units l, passes-formed l (passes e), r),
    λ f. ap reserved (sym (formed-units l f.0 f.1)) ∙ f.2,
  )

pub decode-settled : (capacity : ℕ) (l : List ℕ) → Settles (whole 1 (capacity < 63) ∷ label_causes l) (length (text_of l)) (decode_outcome reserved capacity l)
unfolding decode_outcome first_outside
decode-settled capacity l =
    settle-label capacity l
    (λ _ short. settle-whole _ 8 (fails-iff (has_prefix prefix l) (prefix-iff l))
    (λ p.
    let first = not-false _ p in
    settle-place (length (after_prefix prefix l)) (λ k. not (is_character lace (at (after_prefix prefix l) k))) (placed 7 (OutsideAfterPrefix l)) (λ i. 4 + i) (λ i h. (i, refl, h)) (λ p h. h)
    (λ inside. settle-whole _ 9 (unreadable-iff l short first inside)
    (λ r. settle-whole _ 6 (reserved-iff l short first inside (not-false _ r))
    (λ _. settle-done (length (text_of l)))))))

-- 6 and 3, of a text that passed the first tests
own-settled : (t : List ℕ) → Settles (own_text_causes t) (length (label_of t)) (label_outcome reserved t)
own-settled t =
    settle-whole _ 6 Iff.rfl
    (λ _. settle-whole _ 3 (ltb_iff 63 (length (label_of t)))
    (λ _. settle-done (length (label_of t))))

pub encode-settled : (capacity : ℕ) (t : List ℕ) → Settles (whole 1 (capacity < 63) ∷ text_causes t) (length (label_of t)) (encode_outcome reserved capacity t)
unfolding encode_outcome
encode-settled capacity t = settle-text capacity t (own-settled t)

pub encode-marked-settled : (capacity : ℕ) (t marks : List ℕ)
    → Settles (whole 1 (capacity < 63) ∷ marked_text_causes t marks) (length (label_of t)) (encode_marked_outcome reserved capacity t marks)
unfolding encode_marked_outcome
encode-marked-settled capacity t marks = settle-text capacity t (settle-marks false t marks (own-settled t))
