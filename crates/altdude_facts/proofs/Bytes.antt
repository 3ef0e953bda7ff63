-- Bytes and symbols: symbol and byte are inverse, one by one and over rows, and the hyphen stands for itself alone.
use Prim.Native.Nat.{ℕ, ◌<◌}
use mathlib.Core.Path.{◌≡◌, refl, sym, ap, ◌∙◌}
use mathlib.Core.Bool.{true, false, not}
use mathlib.Core.Logic.{◌⊎◌, inl, inr, ⊎_elim}
use mathlib.Core.List.{List, map}
use lib.Dec.{eqb}
use lib.ListN.{length}
use borrow.Author.Tests.{eqb-true, eqb-false, ne_eqb, not-true}
use native.Mathlib.Omega.{arith}
use Rattle.basis.specs.Rows.{at}
use Rattle.basis.proofs.Tests.{cases}
use Rattle.basis.proofs.Lists.{map-after, map-self}
use Rattle.ascii.specs.Case.{small}
use Rattle.ascii.proofs.Case.{small-below, small-small}
use Rattle.ascii.proofs.EdgeHyphen.{KeepsHyphen, keeps-hyphen, small-keeps-hyphen}
use Rattle.alphabet.specs.Alphabet.{altdude, character_of, value_of}
use Rattle.alphabet.proofs.Inverse.{value_same, value-le, value-character, character-value, character-no-hyphen, altdude-alphabet}
use Rattle.altdude.specs.Symbols.{symbol_of, byte_of, is_character}

-- a hyphen or a value 0 to 31
abbrev pub IsSymbol : ℕ → Type 0
IsSymbol s = (s < 32) ⊎ (s ≡ 45)

-- every element is one
abbrev pub AreSymbols : List ℕ → Type 0
AreSymbols l = (i : ℕ) → i < length l → IsSymbol (at l i)

-- a hyphen, and what is none
pub hyphen-symbol : symbol_of 45 ≡ 45
unfolding symbol_of
hyphen-symbol = refl

pub hyphen-byte : byte_of 45 ≡ 45
unfolding byte_of
hyphen-byte = refl

other-symbol : (b : ℕ) → eqb b 45 ≡ false → symbol_of b ≡ value_of altdude b
unfolding symbol_of
other-symbol b e = rw e

other_byte : (s : ℕ) → eqb s 45 ≡ false → byte_of s ≡ character_of altdude s
unfolding byte_of
other_byte s e = rw e

pub keeps-symbol : KeepsHyphen symbol_of
keeps-symbol =
    keeps-hyphen symbol_of hyphen-symbol
    (λ b e q. let v = value-le altdude altdude-alphabet b in omega (arith, other-symbol b e))

pub keeps-byte : KeepsHyphen byte_of
keeps-byte =
    keeps-hyphen byte_of hyphen-byte
    (λ s e q. character-no-hyphen altdude altdude-alphabet s (sym (other_byte s e) ∙ q))

-- the symbol of a small form
pub symbol-small : (b : ℕ) → symbol_of (small b) ≡ symbol_of b
unfolding symbol_of
symbol-small b = rw (small-keeps-hyphen b, value_same altdude (small b) b (small-small b))

-- the byte of a byte's symbol is that byte made small
pub byte-symbol : (b : ℕ) → is_character b ≡ true → byte_of (symbol_of b) ≡ small b
unfolding is_character
byte-symbol b c =
    cases (eqb b 45)
    (λ e. rw (eqb-true b 45 e, hyphen-symbol, hyphen-byte, small-below 45 (omega arith)))
    (λ e.
    let n : symbol_of b ≡ 32 → ⊥ = eqb-false _ _ (not-true _ c) in
    let s : symbol_of b ≡ value_of altdude b = other-symbol b e in
    let v : value_of altdude b < 32 = omega (arith, value-le altdude altdude-alphabet b) in
    ap byte_of s ∙ other_byte (value_of altdude b) (ne_eqb (value_of altdude b) 45 (λ q. omega arith)) ∙ character-value altdude altdude-alphabet b v)

-- the symbol of a symbol's byte
pub symbol-byte : (s : ℕ) → IsSymbol s → symbol_of (byte_of s) ≡ s
symbol-byte s (inl h) =
    let e : eqb s 45 ≡ false = ne_eqb s 45 (λ q. omega arith) in
    other-symbol (byte_of s) (keeps-byte s ∙ e) ∙ ap (value_of altdude) (other_byte s e) ∙ value-character altdude altdude-alphabet s h
symbol-byte s (inr e) = rw (e, hyphen-byte, hyphen-symbol)

-- a byte with a symbol is a character
pub symbol-character : (b : ℕ) → IsSymbol (symbol_of b) → is_character b ≡ true
unfolding is_character
symbol-character b s = ap not (ne_eqb (symbol_of b) 32 (λ e. ⊎_elim (λ h. omega arith) (λ h. omega arith) s))

-- the same over rows
pub symbols-small : (l : List ℕ) → map symbol_of (map small l) ≡ map symbol_of l
symbols-small l = map-after symbol_of small symbol_of l (λ i h. symbol-small (at l i))

pub bytes-symbols : (l : List ℕ) → ((i : ℕ) → i < length l → is_character (at l i) ≡ true) → map byte_of (map symbol_of l) ≡ map small l
bytes-symbols l c = map-after byte_of symbol_of small l (λ i h. byte-symbol (at l i) (c i h))

pub symbols-bytes : (l : List ℕ) → AreSymbols l → map symbol_of (map byte_of l) ≡ l
symbols-bytes l c = map-after symbol_of byte_of (λ s. s) l (λ i h. symbol-byte (at l i) (c i h)) ∙ map-self l
