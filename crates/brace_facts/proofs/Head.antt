-- The head of a body is read back, and so the whole body.
use Prim.Native.Nat.{ℕ, suc, ◌+◌, ◌*◌, ◌/◌, ◌%◌, ◌^◌, ◌≤◌, ◌<◌}
use mathlib.Core.Path.{◌≡◌, refl, ap, ◌∙◌}
use mathlib.Core.Bool.{true, false}
use mathlib.Core.List.{List}
use lib.ListN.{drop}
use native.Mathlib.Nat.{div-eq_of_lt}
use native.Mathlib.Omega.{arith}
use Rattle.basis.specs.Rows.{at}
use Rattle.alphabet.specs.Alphabet.{brace}
use Rattle.copying.specs.Symbols.{are_for, quintet_of, quintets}
use Rattle.copying.proofs.Modes.{mode_of}
use Rattle.copying.proofs.Heads.{head_first, head-number, head-rest}
use Rattle.brace_format.specs.declared.style.Style.{Style}
use Rattle.brace_format.specs.declared.style.Style.TheVariants.{HalfRow, Row, Mixed, NoRow}
use Rattle.brace_format.specs.Style.{head_width, head_value}
use Rattle.brace_symbols.specs.Encoding.{quintet_count, spare_count, ahead, code_quintets, symbols_from, body_of}
use Rattle.brace_text.specs.Decoding.{head_length, head_spare, head_style, text_by, kind_of, body_text}
use Rattle.brace_text.specs.Internal.{RowFits}
use Rattle.brace_facts.proofs.Codes.{AllCodes, ahead-lt, reads-text}

-- a body whose head is the number x of n + 1 quintets
body-by : (s : Style) (t : List ℕ) (n kind spare x : ℕ) → AllCodes s t → x < 2 ^ (5 * suc n) → x / 2 ^ (5 * n) % 32 / 8 ≡ kind
    → head_length kind ≡ suc n → head_spare kind ≡ spare → head_style kind x ≡ s → x % 2 ^ spare ≡ ahead s spare t → spare ≤ 4
    → (l : List ℕ) → are_for brace (quintets (suc n) x (symbols_from s false spare t)) l ≡ true → body_text l ≡ t
unfolding body_text kind_of text_by mode_of
body-by s t n kind spare x a h k hl hs st r few l e =
    let z = div-eq_of_lt h in
    let d : quintet_of brace (at l 0) / 8 ≡ kind = ap (λ (q : ℕ). q / 8) (head_first brace x _ n l e) ∙ k in
    rw (d, hl, rw z at (head-number brace x _ (suc n) l e), hs, st, r) (reads-text s t a false spare few (drop (suc n) l) (head-rest brace x _ (suc n) l e))

pub body_back : (s : Style) (t l : List ℕ) → RowFits s → AllCodes s t → are_for brace (body_of s t) l ≡ true → body_text l ≡ t
unfolding body_of code_quintets head_width head_value quintet_count spare_count RowFits head_length head_spare head_style
body_back (HalfRow h) t l f a e =
    let b : ahead (HalfRow h) 4 t < 16 = ahead-lt (HalfRow h) 4 t (omega arith) a in
    let v = ahead (HalfRow h) 4 t in
    body-by (HalfRow h) t 2 0 4 (h * 16 + v) a (omega arith) (omega arith) refl refl (ap HalfRow (omega arith)) (omega arith) (omega arith) l e
body_back (Row r) t l f a e =
    let b : ahead (Row r) 0 t < 1 = ahead-lt (Row r) 0 t (omega arith) a in
    let v = ahead (Row r) 0 t in
    body-by (Row r) t 1 1 0 ((256 + r) * 1 + v) a (omega arith) (omega arith) refl refl (ap Row (omega arith)) (omega arith) (omega arith) l e
body_back (Mixed h) t l f a e =
    let b : ahead (Mixed h) 4 t < 16 = ahead-lt (Mixed h) 4 t (omega arith) a in
    let v = ahead (Mixed h) 4 t in
    body-by (Mixed h) t 2 2 4 ((1024 + h) * 16 + v) a (omega arith) (omega arith) refl refl (ap Mixed (omega arith)) (omega arith) (omega arith) l e
body_back NoRow t l f a e =
    let b : ahead NoRow 3 t < 8 = ahead-lt NoRow 3 t (omega arith) a in
    let v = ahead NoRow 3 t in
    body-by NoRow t 0 3 3 (24 + v) a (omega arith) (omega arith) refl refl refl (omega arith) (omega arith) l e
