-- Every label is a row of LDH, and every text that is read is a row of units.
use Prim.Native.Nat.{ℕ, ◌+◌, ◌-◌, ◌*◌, ◌<◌}
use mathlib.Core.Path.{◌≡◌}
use mathlib.Core.Bool.{Bool, true, false, not}
use mathlib.Core.Logic.{inl, inr}
use mathlib.Core.List.{List, [], ◌∷◌}
use lib.Dec.{eqb, ltb}
use lib.ListN.{length, take, drop}
use borrow.Author.Tests.{lt-ltb, le-ltb}
use native.Mathlib.Omega.{arith}
use Rattle.basis.specs.Tests.{every, every_in}
use Rattle.basis.specs.Rows.{AllBelow}
use Rattle.basis.proofs.Tests.{cases, by-lt, both_left, both_right, true-not-false}
use Rattle.basis.proofs.Lists.{below_none, below_more}
use Rattle.ascii.specs.Ldh.{is_ldh}
use Rattle.ascii.proofs.Ldh.{ldh-above}
use Rattle.alphabet.specs.Alphabet.{brace}
use Rattle.copying.specs.Symbols.{are_for, quintet_of}
use Rattle.copying.specs.declared.Mode.{Mode}
use Rattle.copying.specs.declared.Mode.TheVariants.{Coded}
use Rattle.copying.specs.Modes.{copying_after, is_copied, is_second, next_mode}
use Rattle.copying.proofs.Bytes.{hyphen-ldh}
use Rattle.copying.proofs.Elements.{AllOf, all_append, all_drop, all_take}
use Rattle.copying.proofs.Hosts.{IsSymbol, quintets-symbols, spelled-ldh, switch-symbols, ldh-symbols}
use Rattle.brace_format.specs.Signature.{signature, is_signed}
use Rattle.brace_format.specs.declared.style.Style.{Style}
use Rattle.brace_format.specs.declared.style.Style.TheVariants.{HalfRow, Row, Mixed, NoRow}
use Rattle.brace_format.specs.Style.{other_half, unit_of}
use Rattle.brace_choice.specs.Choice.{style_of}
use Rattle.brace_symbols.specs.Encoding.{code_quintets, unit_symbols, out_after, symbols_from, body_of, is_plain, symbols_of}
use Rattle.brace_text.specs.Decoding.{is_whole, unit_taken, next_count, next_value, adds, text_from, head_length, head_style, text_by, kind_of, body_text, text_of}
use Rattle.brace_text.specs.Internal.{RowFits}
use Rattle.brace_facts.proofs.Alphabet.{brace-ldh, brace-written}
use Rattle.brace_facts.proofs.RoundTrip.{plain-ldh}

unit-symbols : (s : Style) (copying : Bool) (k u : ℕ) (t rest : List ℕ) → AllOf IsSymbol rest → AllOf IsSymbol (unit_symbols s copying k u t rest)
unfolding unit_symbols code_quintets AllOf
unit-symbols s copying k u t rest a =
    cases (eqb u 45)
    (λ e. rw e (inr hyphen-ldh, (inr hyphen-ldh, a)))
    (λ n. cases (is_ldh u)
    (λ e. rw (n, e) (switch-symbols (not copying) (u ∷ rest) (inr e, a)))
    (λ e. rw (n, e) (switch-symbols copying _ (quintets-symbols _ _ rest a))))

text-symbols : (s : Style) (copying : Bool) (k : ℕ) (t : List ℕ) → AllOf IsSymbol (symbols_from s copying k t)
unfolding symbols_from AllOf
text-symbols s copying k [] = tt
text-symbols s copying k (u ∷ t) = unit-symbols s copying k u t _ (text-symbols s (copying_after copying u) (out_after s k u) t)

body-symbols : (s : Style) (t : List ℕ) → AllOf IsSymbol (body_of s t)
unfolding body_of code_quintets
body-symbols s t = quintets-symbols _ _ _ (text-symbols s false _ t)

signature-symbols : AllOf IsSymbol signature
unfolding signature AllOf
signature-symbols = (inr hyphen-ldh, (inl (omega arith), (inl (omega arith), (inl (omega arith), tt))))

-- every symbol of a text is a quintet or LDH
all-symbols : (t : List ℕ) → AllOf IsSymbol (symbols_of t)
unfolding symbols_of
all-symbols t =
    cases (is_plain t)
    (λ e. rw e (ldh-symbols t (plain-ldh t e)))
    (λ e. rw e (all_append IsSymbol (body_of (style_of t) t) signature (body-symbols (style_of t) t) signature-symbols))

-- the bytes that are read as the symbols of a text are LDH
pub label-ldh : (t l : List ℕ) → are_for brace (symbols_of t) l ≡ true → every_in is_ldh l ≡ true
label-ldh t l = spelled-ldh brace brace-written.test brace-ldh (symbols_of t) l (all-symbols t)

-- a unit of 16 bits
abbrev IsUnit : ℕ → Type 0
IsUnit u = u < 65536

ldh-unit : (u : ℕ) → is_ldh u ≡ true → u < 65536
ldh-unit u e = by-lt u 123 (λ h. omega arith) (λ h. absurd (true-not-false e (ldh-above u h)))

pub ldh-units : (l : List ℕ) → every_in is_ldh l ≡ true → AllOf IsUnit l
unfolding every AllOf
ldh-units [] e = tt
ldh-units (u ∷ l) e = (ldh-unit u (both_left (is_ldh u) _ e), ldh-units l (both_right (is_ldh u) _ e))

unit-below : (s : Style) (c : ℕ) → RowFits s → unit_of s c < 65536
unfolding unit_of RowFits other_half
unit-below (HalfRow h) c f = omega arith
unit-below (Row r) c f = omega arith
unit-below (Mixed h) c f =
    by-lt c 128
    (λ l. rw (lt-ltb c 128 l) (omega arith))
    (λ l. cases (ltb c 65536) (λ e. rw (le-ltb c 128 l, e) (omega arith)) (λ e. rw (le-ltb c 128 l, e) (omega arith)))
unit-below NoRow c f = omega arith

adds-units : (s : Style) (m : Mode) (k v b : ℕ) (rest : List ℕ) → RowFits s → b < 65536 → AllOf IsUnit rest → AllOf IsUnit (adds s m k v b rest)
unfolding adds unit_taken AllOf
adds-units s m k v b rest f h a =
    cases (eqb b 45)
    (λ e. cases (is_second m) (λ g. rw (e, g) (omega arith, a)) (λ g. rw (e, g) a))
    (λ e. cases (is_copied m)
    (λ g. rw (e, g) (h, a))
    (λ g. cases (is_whole s (k + 5) (v * 32 + quintet_of brace b)) (λ w. rw (e, g, w) (unit-below s _ f, a)) (λ w. rw (e, g, w) a)))

text-units : (s : Style) (m : Mode) (k v : ℕ) (l : List ℕ) → RowFits s → AllOf IsUnit l → AllOf IsUnit (text_from s m k v l)
unfolding text_from AllOf
text-units s m k v [] f a = tt
text-units s m k v (b ∷ l) f a = adds-units s m k v b _ f a.0 (text-units s (next_mode m b) (next_count s m k v b) (next_value s m k v b) l f a.1)

style-fits : (kind x : ℕ) → RowFits (head_style kind x)
unfolding head_style RowFits
style-fits kind x =
    cases (eqb kind 0) (λ e. rw e (omega arith))
    (λ e. cases (eqb kind 1) (λ f. rw (e, f) (omega arith))
    (λ f. cases (eqb kind 2) (λ g. rw (e, f, g) (omega arith)) (λ g. rw (e, f, g) tt)))

body-units : (l : List ℕ) → AllOf IsUnit l → AllOf IsUnit (body_text l)
unfolding body_text text_by
body-units l a = text-units _ Coded _ _ (drop (head_length (kind_of l)) l) (style-fits _ _) (all_drop IsUnit (head_length (kind_of l)) l a)

all-below : (l : List ℕ) → AllOf IsUnit l → AllBelow 65536 l
unfolding AllOf
all-below [] a = below_none 65536
all-below (x ∷ l) a = below_more 65536 x l a.0 (all-below l a.1)

-- bytes are read as units
pub text-below : (l : List ℕ) → AllOf IsUnit l → AllBelow 65536 (text_of l)
unfolding text_of
text-below l a =
    cases (is_signed l)
    (λ e. rw e (all-below (body_text (take (length l - 4) l)) (body-units (take (length l - 4) l) (all_take IsUnit (length l - 4) l a))))
    (λ e. rw e (all-below l a))
