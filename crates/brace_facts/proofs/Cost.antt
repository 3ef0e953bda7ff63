-- The draft's M and M' are how many characters are coded in mixed style and in no-row style.
use Prim.Native.Nat.{ℕ, zero, suc, ◌+◌, ◌*◌, ◌/◌, ◌%◌, ◌^◌, ◌≤◌}
use mathlib.Core.Path.{◌≡◌, refl, ap, ◌∙◌}
use mathlib.Core.Bool.{Bool, true, false, not}
use mathlib.Core.Logic.{◌⊎◌, inl, inr}
use mathlib.Core.List.{List, [], ◌∷◌}
use lib.Dec.{eqb}
use lib.ListN.{length}
use borrow.Author.Tests.{lt-ltb, le-ltb, eqb-true, ne_eqb}
use native.Mathlib.Omega.{arith}
use Rattle.basis.proofs.Tests.{cases}
use Rattle.ascii.specs.Ldh.{is_ldh}
use Rattle.copying.specs.Symbols.{quintets}
use Rattle.copying.specs.Modes.{copying_after, switch_if}
use Rattle.copying.proofs.Bytes.{ldh-from, hyphen-ldh}
use Rattle.brace_format.specs.Style.{other_half, head_width, width_of}
use Rattle.brace_choice.specs.Choice.{codes_of, count_in, mixed_cost, no_row_cost}
use Rattle.brace_symbols.specs.Encoding.{quintet_count, spare_count, code_quintets, unit_symbols, out_after, symbols_from, body_of}
use Rattle.brace_format.specs.declared.style.Style.{Style}
use Rattle.brace_format.specs.declared.style.Style.TheVariants.{HalfRow, Row, Mixed, NoRow}
use Rattle.brace_facts.specs.Choice.{coded_count}
use Rattle.brace_facts.proofs.Codes.{spare-few}
use Rattle.brace_facts.proofs.Lengths.{head_few}

-- how many bits the codes have in a style
unfoldable bit_count : Style → List ℕ → ℕ
bit_count s [] = 0
bit_count s (c ∷ codes) = width_of s c + bit_count s codes

quintets-coded : (n x : ℕ) (rest : List ℕ) → coded_count (quintets n x rest) ≡ n + coded_count rest
unfolding quintets coded_count
quintets-coded zero x rest = omega arith
quintets-coded (suc n) x rest = rw (lt-ltb (x / 2 ^ (5 * n) % 32) 32 (omega arith)) (omega (arith, quintets-coded n x rest))

switch-coded : (b : Bool) (rest : List ℕ) → coded_count (switch_if b rest) ≡ coded_count rest
unfolding switch_if coded_count
switch-coded true rest = omega arith
switch-coded false rest = omega arith

letter-coded : (u : ℕ) (rest : List ℕ) → is_ldh u ≡ true → coded_count (u ∷ rest) ≡ coded_count rest
unfolding coded_count
letter-coded u rest e = rw (le-ltb u 32 (omega (arith, ldh-from u e))) (omega arith)

-- a code has five bits or more
code-wide : (s : Style) (u : ℕ) → 5 ≤ width_of s u
unfolding width_of
code-wide (HalfRow h) u = omega arith
code-wide (Row r) u = omega arith
code-wide (Mixed h) u =
    cases (eqb (u / 128) h)
    (λ e. rw e (omega arith))
    (λ n. cases (eqb (u / 128) (other_half h)) (λ e. rw (n, e) (omega arith)) (λ e. rw (n, e) (omega arith)))
code-wide NoRow u = omega arith

none-or-wide : (s : Style) (codes : List ℕ) → (bit_count s codes ≡ 0) ⊎ (5 ≤ bit_count s codes)
unfolding bit_count
none-or-wide s [] = inl refl
none-or-wide s (c ∷ codes) = inr (omega (arith, code-wide s c))

-- the quintets of a code, and those of what follows it, are those of all
module _ (k w more : ℕ) (out : k ≤ 4) (h : k ≤ w) where
  joined-quintets : (more ≡ 0) ⊎ (5 ≤ more) → quintet_count k w + quintet_count (spare_count k w) more ≡ quintet_count k (w + more)
  unfolding quintet_count spare_count
  joined-quintets (inl e) = omega arith
  joined-quintets (inr e) = omega arith

-- the coded symbols of a text after the head, with k bits out
text-coded : (s : Style) (copying : Bool) (k : ℕ) (t : List ℕ) → k ≤ 4 → coded_count (symbols_from s copying k t) ≡ quintet_count k (bit_count s (codes_of t))
unfolding symbols_from unit_symbols copying_after out_after code_quintets codes_of bit_count coded_count quintet_count
text-coded s copying k [] h = omega arith
text-coded s copying k (u ∷ t) h =
    cases (eqb u 45)
    (λ e. rw (eqb-true u 45 e, hyphen-ldh) (omega (arith, text-coded s copying k t h)))
    (λ n. cases (is_ldh u)
    (λ e. rw (n, e) (switch-coded (not copying) (u ∷ symbols_from s true k t) ∙ letter-coded u (symbols_from s true k t) e ∙ text-coded s true k t h))
    (λ e.
    let w = code-wide s u in
    let r = text-coded s false (spare_count k (width_of s u)) t (spare-few k (width_of s u) h (omega arith)) in
    rw (n, e) (switch-coded copying _ ∙ quintets-coded _ _ _ ∙ ap (λ (i : ℕ). quintet_count k (width_of s u) + i) r
    ∙ joined-quintets k (width_of s u) (bit_count s (codes_of t)) h (omega arith) (none-or-wide s (codes_of t)))))

-- as many characters of a body are coded as it takes to hold the bits of the head and of the codes
body-coded : (s : Style) (t : List ℕ) → coded_count (body_of s t) ≡ quintet_count 0 (head_width s + bit_count s (codes_of t))
unfolding body_of code_quintets
body-coded s t =
    quintets-coded _ _ _ ∙ ap (λ (i : ℕ). quintet_count 0 (head_width s) + i) (text-coded s false _ t (head_few s))
    ∙ joined-quintets 0 (head_width s) (bit_count s (codes_of t)) (omega arith) (omega arith) (none-or-wide s (codes_of t))

-- the bits of the codes in mixed style, by how many are in each half-row
other_differs : (h c : ℕ) → eqb (c / 128) h ≡ true → eqb (c / 128) (other_half h) ≡ false
unfolding other_half
other_differs h c e = ne_eqb (c / 128) _ (λ q. omega (arith, eqb-true (c / 128) h e))

mixed-bits : (h : ℕ) (codes : List ℕ) → bit_count (Mixed h) codes + 10 * count_in h codes + 9 * count_in (other_half h) codes ≡ 18 * length codes
unfolding bit_count count_in width_of
mixed-bits h [] = refl
mixed-bits h (c ∷ codes) =
    let r = mixed-bits h codes in
    cases (eqb (c / 128) h)
    (λ e. rw (e, other_differs h c e) (omega arith))
    (λ n. cases (eqb (c / 128) (other_half h)) (λ e. rw (n, e) (omega arith)) (λ e. rw (n, e) (omega arith)))

no-row-bits : (codes : List ℕ) → bit_count NoRow codes ≡ 16 * length codes
unfolding bit_count width_of
no-row-bits [] = refl
no-row-bits (c ∷ codes) = omega (arith, no-row-bits codes)

-- M is how many characters of the body are coded in mixed style
pub mixed-cost : (t : List ℕ) (h : ℕ) → mixed_cost (codes_of t) h ≡ coded_count (body_of (Mixed h) t)
unfolding mixed_cost quintet_count head_width
mixed-cost t h = omega (arith, mixed-bits h (codes_of t), body-coded (Mixed h) t)

-- and M' how many are in no-row style
pub no-row-cost : (t : List ℕ) → no_row_cost (codes_of t) ≡ coded_count (body_of NoRow t)
unfolding no_row_cost quintet_count head_width
no-row-cost t = omega (arith, no-row-bits (codes_of t), body-coded NoRow t)
