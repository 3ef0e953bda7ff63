-- A host label without the signature is its own text, its own symbols and its own label.
use Prim.Native.Nat.{ℕ, ◌≤◌, ◌<◌}
use mathlib.Core.Path.{◌≡◌, refl, ap, ◌∙◌}
use mathlib.Core.Bool.{true, false, not}
use mathlib.Core.List.{List, [], ◌∷◌}
use lib.ListN.{length, get_or}
use borrow.Author.Tests.{eq-eqb, le-ltb}
use native.Mathlib.Omega.{arith}
use Rattle.basis.specs.Tests.{both, every, every_in}
use Rattle.basis.specs.Rows.{at}
use Rattle.basis.specs.Outcome.{done}
use Rattle.basis.proofs.Tests.{by-lt, both_left, both_right, both_true, true-not-false, within-true, within-below, at_each, first-none}
use Rattle.basis.proofs.Outcome.{pass-if, pass_below, pass-equal}
use Rattle.ascii.specs.Ldh.{is_ldh, is_all_ldh, has_edge_hyphen, is_host_label}
use Rattle.ascii.proofs.Ldh.{ldh-above}
use Rattle.utf16.specs.Units.{is_high, is_low, unpaired_at, first_unpaired}
use Rattle.utf16.proofs.Surrogates.{unpaired-plain}
use Rattle.alphabet.specs.Alphabet.{brace}
use Rattle.copying.specs.Symbols.{capital, is_for, are_for}
use Rattle.copying.proofs.Bytes.{ldh-from, ldh-bytes}
use Rattle.brace_format.specs.Signature.{is_signed}
use Rattle.brace_symbols.specs.Encoding.{is_plain, symbols_of, label_of}
use Rattle.brace_text.specs.Decoding.{text_of}
use Rattle.brace_symbols.specs.Answer.{is_too_long, encode_outcome}
use Rattle.brace_decoding.specs.Answer.{is_done, is_lawful}

-- LDH is below 123
ldh-to : (u : ℕ) → is_ldh u ≡ true → u < 123
ldh-to u e = by-lt u 123 (λ h. h) (λ h. absurd (true-not-false e (ldh-above u h)))

-- LDH is copied
copied-for : (l : List ℕ) → every_in is_ldh l ≡ true → are_for brace l l ≡ true
unfolding are_for is_for every
copied-for [] e = refl
copied-for (b ∷ l) e = both_true (rw (le-ltb b 32 (omega (arith, ldh-from b (both_left (is_ldh b) _ e)))) (eq-eqb b b refl)) (copied-for l (both_right (is_ldh b) _ e))

-- and no surrogate
ldh-paired : (l : List ℕ) → every_in is_ldh l ≡ true → first_unpaired l ≡ length l
unfolding first_unpaired unpaired_at is_high is_low
ldh-paired l e =
    first-none (length l) (unpaired_at 0 l)
    (λ i h.
    let s = ldh-to (get_or l i 0) (at_each (length l) (λ k. is_ldh (at l k)) e i h) in
    unpaired-plain _ (get_or l i 0) _ (within-below 0xd800 0xdbff _ (omega arith)) (within-below 0xdc00 0xdfff _ (omega arith)))

module _ (l : List ℕ) (unsigned : is_signed l ≡ false) where
  pub unsigned-text : text_of l ≡ l
  unfolding text_of
  unsigned-text = rw unsigned

  module _ (ldh : is_all_ldh l ≡ true) (some : 1 ≤ length l) (short : length l ≤ 63) (edges : has_edge_hyphen l ≡ false) where
    plain : is_plain l ≡ true
    unfolding is_plain is_host_label
    plain = both_true (both_true ldh (both_true (within-true 1 63 (length l) some short) (ap not edges))) (ap not unsigned)

    own-symbols : symbols_of l ≡ l
    unfolding symbols_of
    own-symbols = rw plain

    own-label : label_of l ≡ l
    unfolding label_of is_all_ldh
    own-label = rw own-symbols (ldh-bytes brace capital l ldh)

    may-be-written : encode_outcome 63 l ≡ done (length (label_of l))
    unfolding encode_outcome is_too_long is_all_ldh
    may-be-written =
        pass_below 1 0 _ 63 63 (omega arith)
        ∙ pass-equal 2 0 _ (length l) 0 (λ e. omega arith)
        ∙ pass_below 10 (first_unpaired l) _ (first_unpaired l) (length l) (omega (arith, ldh-paired l ldh))
        ∙ pass-if 5 0 _ (has_edge_hyphen (label_of l)) (ap has_edge_hyphen own-label ∙ edges)
        ∙ pass-if 3 0 _ _ (rw (own-label, le-ltb 63 (length l) short))

    pub plain-lawful : is_lawful l ≡ true
    unfolding is_lawful is_done is_all_ldh both
    plain-lawful = rw (unsigned-text, may-be-written, own-symbols) (copied-for l ldh)
