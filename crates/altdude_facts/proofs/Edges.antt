-- A text and its symbols, and a label and its symbols, have hyphens at the same edges.
use Prim.Native.Nat.{ℕ, zero, suc, ◌+◌, ◌/◌, ◌%◌, ◌<◌}
use mathlib.Core.Path.{◌≡◌, refl, sym, ◌∙◌}
use mathlib.Core.Bool.{false}
use mathlib.Core.List.{List, [], ◌∷◌, map}
use lib.Bits.{bit_xor}
use lib.Dec.{eqb}
use borrow.Author.Tests.{ne_eqb}
use native.Mathlib.Omega.{arith}
use Rattle.basis.specs.Rows.{at}
use Rattle.basis.proofs.Tests.{cases}
use Rattle.ascii.specs.Ldh.{has_edge_hyphen}
use Rattle.ascii.proofs.EdgeHyphen.{last_of, edges-alike, edges-map}
use Rattle.altdude.specs.Symbols.{symbol_of}
use Rattle.altdude.specs.Encoding.{leading_digits, group_of, item_of, remembered_after, symbols_from}
use Rattle.altdude_facts.proofs.Bytes.{keeps-symbol}

pub edges-symbols : (l : List ℕ) → has_edge_hyphen (map symbol_of l) ≡ has_edge_hyphen l
edges-symbols = edges-map symbol_of keeps-symbol

value-no : (x : ℕ) → x < 32 → eqb x 45 ≡ false
value-no x h = ne_eqb x 45 (λ q. omega arith)

-- digits before a row: the first is no hyphen if that of the row is a value, and the last is the row's
digits-first : (f x y : ℕ) (rest : List ℕ) → y < 32 → eqb (at (leading_digits f x (y ∷ rest)) 0) 45 ≡ false
unfolding leading_digits
digits-first zero x y rest h = value-no y h
digits-first (suc f) zero y rest h = value-no y h
digits-first (suc f) (suc x) y rest h = digits-first f (suc x / 16) (16 + suc x % 16) (y ∷ rest) (omega arith)

digits_last : (f x y d : ℕ) (rest : List ℕ) → last_of d (leading_digits f x (y ∷ rest)) ≡ last_of y rest
unfolding leading_digits
digits_last zero x y d rest = refl
digits_last (suc f) zero y d rest = refl
digits_last (suc f) (suc x) y d rest = digits_last f (suc x / 16) (16 + suc x % 16) d (y ∷ rest)

written-first : (m : ℕ) (t : List ℕ) → eqb (at (symbols_from m t) 0) 45 ≡ eqb (at t 0) 45
unfolding symbols_from item_of group_of
written-first m [] = refl
written-first m (p ∷ t) =
    cases (eqb p 45)
    (λ e. rw e)
    (λ e. rw e (digits-first (bit_xor p m / 16) (bit_xor p m / 16) (bit_xor p m % 16) _ (omega arith)))

written_last : (m : ℕ) (t : List ℕ) (d c : ℕ) → eqb d 45 ≡ eqb c 45 → eqb (last_of d (symbols_from m t)) 45 ≡ eqb (last_of c t) 45
unfolding symbols_from item_of group_of remembered_after
written_last m [] d c h = h
written_last m (p ∷ t) d c h =
    cases (eqb p 45)
    (λ e. rw e (written_last m t 45 p (sym e)))
    (λ e. rw (e, digits_last) (written_last p t (bit_xor p m % 16) p (value-no (bit_xor p m % 16) (omega arith) ∙ sym e)))

-- a text, the row of symbols that is written of it, and its label
pub edges-written : (m : ℕ) (t : List ℕ) → has_edge_hyphen (symbols_from m t) ≡ has_edge_hyphen t
edges-written m t = edges-alike (symbols_from m t) t (written-first m t) (written_last m t 0 0 refl)
