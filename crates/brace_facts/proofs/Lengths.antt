-- A label has at least as many bytes as its text has units.
use Prim.Native.Nat.{ℕ, ◌+◌, ◌≤◌}
use mathlib.Core.Path.{◌≡◌}
use mathlib.Core.Bool.{Bool, false, not}
use mathlib.Core.List.{List, [], ◌∷◌}
use lib.Dec.{eqb}
use lib.ListN.{length, length-append, length-map}
use native.Mathlib.Omega.{arith}
use Rattle.basis.specs.Tests.{pick}
use Rattle.basis.specs.Rows.{AllBelow}
use Rattle.basis.proofs.Tests.{cases}
use Rattle.ascii.specs.Ldh.{is_ldh}
use Rattle.alphabet.specs.Alphabet.{brace}
use Rattle.copying.specs.Symbols.{byte_of, bytes_of, capital}
use Rattle.copying.specs.Modes.{copying_after}
use Rattle.copying.proofs.Lengths.{length-quintets, length-switch}
use Rattle.brace_format.specs.declared.style.Style.{Style}
use Rattle.brace_format.specs.declared.style.Style.TheVariants.{HalfRow, Row, Mixed, NoRow}
use Rattle.brace_format.specs.Style.{head_width, width_of}
use Rattle.brace_choice.specs.Choice.{style_of}
use Rattle.brace_symbols.specs.Encoding.{quintet_count, spare_count, code_quintets, unit_symbols, out_after, symbols_from, body_of, is_plain, symbols_of, label_of}
use Rattle.brace_facts.proofs.Codes.{Codes, AllCodes, spare-few}
use Rattle.brace_facts.proofs.Styles.{text-suits}

-- how many symbols a unit has
unfoldable unit_count : Style → Bool → ℕ → ℕ → ℕ
unit_count s copying k u = pick (eqb u 45) 2 (pick (is_ldh u) (pick (not copying) 1 0 + 1) (pick copying 1 0 + quintet_count k (width_of s u)))

length-unit : (s : Style) (copying : Bool) (k u : ℕ) (t rest : List ℕ) → length (unit_symbols s copying k u t rest) ≡ unit_count s copying k u + length rest
unfolding unit_symbols unit_count code_quintets
length-unit s copying k u t rest =
    cases (eqb u 45)
    (λ e. rw e (omega arith))
    (λ n. cases (is_ldh u)
    (λ e. rw (n, e, length-switch (not copying) (u ∷ rest)) (omega arith))
    (λ e. rw (n, e, length-switch copying, length-quintets) (omega arith)))

-- each has one at least, and leaves at most four bits out
module _ (s : Style) (k u : ℕ) (c : is_ldh u ≡ false → Codes s u) (h : k ≤ 4) where
  some-symbols : (copying : Bool) → 1 ≤ unit_count s copying k u
  unfolding unit_count quintet_count
  some-symbols copying =
      cases (eqb u 45)
      (λ e. rw e (omega arith))
      (λ n. cases (is_ldh u) (λ e. rw (n, e) (omega arith)) (λ e. let w = (c e).wide in rw (n, e) (omega arith)))

  out-few : out_after s k u ≤ 4
  unfolding out_after
  out-few = cases (is_ldh u) (λ e. rw e h) (λ e. let w = (c e).wide in rw e (spare-few k (width_of s u) h (omega arith)))

text-shorter : (s : Style) (t : List ℕ) → AllCodes s t → (copying : Bool) (k : ℕ) → k ≤ 4 → length t ≤ length (symbols_from s copying k t)
unfolding symbols_from AllCodes
text-shorter s [] a copying k h = omega arith
text-shorter s (u ∷ t) a copying k h =
    rw length-unit
    (omega (arith, some-symbols s k u a.0 h copying, text-shorter s t a.1 (copying_after copying u) (out_after s k u) (out-few s k u a.0 h)))

pub head_few : (s : Style) → spare_count 0 (head_width s) ≤ 4
unfolding spare_count quintet_count head_width
head_few (HalfRow h) = omega arith
head_few (Row r) = omega arith
head_few (Mixed h) = omega arith
head_few NoRow = omega arith

-- a label has at least as many bytes as its text has units
pub text-no-longer : (t : List ℕ) → AllBelow 65536 t → length t ≤ length (label_of t)
unfolding label_of bytes_of symbols_of body_of code_quintets
text-no-longer t b =
    rw (length-map (symbols_of t) (byte_of brace capital))
    (cases (is_plain t)
    (λ e. rw e (omega arith))
    (λ e. rw (e, length-append, length-quintets) (omega (arith, text-shorter (style_of t) t (text-suits t b) false _ (head_few (style_of t))))))
