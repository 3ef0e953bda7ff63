-- The round trip: bytes that are read as the symbols of a text give that text.
use Prim.Native.Nat.{ℕ, ◌-◌, ◌/◌, ◌<◌}
use mathlib.Core.Path.{◌≡◌}
use mathlib.Core.Bool.{true, false}
use mathlib.Core.List.{List, [], ◌∷◌, ◌++◌}
use lib.Dec.{eqb, ltb}
use lib.ListN.{length, take, length-append}
use borrow.Author.Tests.{not-true}
use native.Mathlib.Omega.{arith}
use Rattle.basis.specs.Tests.{pick, every_in}
use Rattle.basis.specs.Rows.{AllBelow}
use Rattle.basis.proofs.Tests.{cases, both_left, both_right}
use Rattle.ascii.specs.Ldh.{is_ldh, is_all_ldh, is_host_label}
use Rattle.alphabet.specs.Alphabet.{brace}
use Rattle.copying.specs.Symbols.{are_for}
use Rattle.copying.proofs.Bytes.{spelled-length, spelled-left, spelled-right, ldh-spelled}
use Rattle.copying.proofs.Elements.{AllOf}
use Rattle.brace_format.specs.Signature.{signature, is_signed}
use Rattle.brace_choice.specs.Choice.{codes_of, best_of, is_better, mixed_cost, no_row_cost, mixed_or_no_row, style_for, style_of}
use Rattle.brace_symbols.specs.Encoding.{body_of, is_plain, symbols_of}
use Rattle.brace_text.specs.Decoding.{body_text, text_of}
use Rattle.brace_text.specs.Internal.{RowFits}
use Rattle.brace_facts.proofs.Styles.{codes-below, text-suits}
use Rattle.brace_facts.proofs.Head.{body_back}

-- the best half-row is one of nine bits
best-below : (all : List ℕ) (h : ℕ) (cs : List ℕ) → h < 512 → AllOf (λ u. u < 65536) cs → best_of all h cs < 512
unfolding best_of AllOf
best-below all h [] b a = b
best-below all h (c ∷ cs) b a =
    best-below all (pick (is_better all (c / 128) h) (c / 128) h) cs
    (cases (is_better all (c / 128) h) (λ e. let d = a.0 in rw e (omega arith)) (λ e. rw e b))
    a.1

row_fits : (cs : List ℕ) → AllOf (λ u. u < 65536) cs → RowFits (style_for cs)
unfolding style_for mixed_or_no_row RowFits AllOf
row_fits [] a = tt
row_fits (c ∷ cs) a =
    let d = a.0 in
    cases (every_in (λ x. eqb (x / 128) (c / 128)) cs)
    (λ e. rw e (omega arith))
    (λ n. cases (every_in (λ x. eqb (x / 256) (c / 256)) cs)
    (λ e. rw (n, e) (omega arith))
    (λ k. cases (ltb (mixed_cost (c ∷ cs) (best_of (c ∷ cs) (c / 128) cs)) (no_row_cost (c ∷ cs)))
    (λ e. rw (n, k, e) (best-below (c ∷ cs) (c / 128) cs (omega arith) a.1))
    (λ e. rw (n, k, e) tt)))

-- the row of a text's style is a number of nine or eight bits
pub style-fits : (t : List ℕ) → AllBelow 65536 t → RowFits (style_of t)
unfolding style_of
style-fits t b = row_fits (codes_of t) (codes-below t b)

-- the body of a text is read as that text
body_is : (t l : List ℕ) → AllBelow 65536 t → are_for brace (body_of (style_of t) t) l ≡ true → body_text l ≡ t
body_is t l b = body_back (style_of t) t l (style-fits t b) (text-suits t b)

-- what a plain text is
module _ (t : List ℕ) (p : is_plain t ≡ true) where
  pub plain-ldh : every_in is_ldh t ≡ true
  unfolding is_plain is_host_label is_all_ldh
  plain-ldh = both_left _ _ (both_left _ _ p)

  plain-unsigned : is_signed t ≡ false
  unfolding is_plain
  plain-unsigned = not-true _ (both_right _ _ p)

-- bytes that are read as a body and the signature
module _ (body l : List ℕ) (e : are_for brace (body ++ signature) l ≡ true) where
  body-length : length l - 4 ≡ length body
  unfolding signature
  body-length = omega (arith, spelled-length brace (body ++ signature) l e, length-append body signature)

  signed_is : is_signed l ≡ true
  unfolding is_signed
  signed_is = rw body-length (spelled-right brace body signature l e)

  body_spelled : are_for brace body (take (length l - 4) l) ≡ true
  body_spelled = rw body-length (spelled-left brace body signature l e)

-- the round trip
pub text-is : (t l : List ℕ) → AllBelow 65536 t → are_for brace (symbols_of t) l ≡ true → text_of l ≡ t
unfolding symbols_of text_of
text-is t l b e =
    cases (is_plain t)
    (λ p. let q = ldh-spelled brace t l (plain-ldh t p) (rw p at e) in rw (q, plain-unsigned t p))
    (λ n.
    let f : are_for brace (body_of (style_of t) t ++ signature) l ≡ true = rw n at e in
    rw (signed_is (body_of (style_of t) t) l f) (body_is t (take (length l - 4) l) b (body_spelled (body_of (style_of t) t) l f)))
