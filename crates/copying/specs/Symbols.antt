-- A label as a row of symbols: below 32 a quintet, coded as its character; else a byte, copied as it
-- is. The alphabet, and the form in which its characters are written, are parameters.
use Rattle.std.specs.Prelude.{ℕ, zero, suc, ◌+◌, ◌*◌, ◌/◌, ◌%◌, ◌^◌, ◌<◌, ◌≡◌, Bool, true, false, List, [], ◌∷◌, map, eqb, ltb, length}
use Rattle.basis.specs.Tests.{pick, both, every}
use Rattle.basis.specs.Rows.{at}
use Rattle.ascii.specs.Case.{small, SameLetter}
unfoldable pub use Rattle.ascii.specs.Case.{capital}
use Rattle.alphabet.specs.Alphabet.{character_of, value_of, is_alphabet}

-- the byte that is written for a symbol: a quintet's character in its form, a copied byte itself
unfoldable pub byte_of : (alphabet : List ℕ) (form : ℕ → ℕ) → ℕ → ℕ
byte_of alphabet form s = pick (ltb s 32) (form (character_of alphabet s)) s

-- the bytes of a row of symbols
unfoldable pub bytes_of : (alphabet : List ℕ) (form : ℕ → ℕ) → List ℕ → List ℕ
bytes_of alphabet form symbols = map (byte_of alphabet form) symbols

-- the byte is read as the symbol: a coded one in either case, a copied one byte for byte
unfoldable pub is_for : (alphabet : List ℕ) → (symbol byte : ℕ) → Bool
is_for alphabet s b = pick (ltb s 32) (eqb (value_of alphabet b) s) (eqb b s)

-- the bytes are read as the symbols
unfoldable pub are_for : (alphabet : List ℕ) → (symbols bytes : List ℕ) → Bool
are_for alphabet [] [] = true
are_for alphabet [] (b ∷ bytes) = false
are_for alphabet (s ∷ symbols) [] = false
are_for alphabet (s ∷ symbols) (b ∷ bytes) = both (is_for alphabet s b) (are_for alphabet symbols bytes)

-- the same in the demand's words: the copied byte itself, or the same letter as the one written
abbrev pub SameSymbol : (alphabet : List ℕ) (form : ℕ → ℕ) → (symbol byte : ℕ) → Type 0
SameSymbol alphabet form s b = pick (ltb s 32) (SameLetter (byte_of alphabet form s) b) (s ≡ b)

-- the bytes are those written for the symbols: as many, the copied ones byte for byte, the others
-- but for case
pub record SameLabel (alphabet : List ℕ) (form : ℕ → ℕ) (symbols label : List ℕ) : Type 0 where
  pub equally_long : length symbols ≡ length label
  pub at_each : (i : ℕ) → i < length symbols → SameSymbol alphabet form (at symbols i) (at label i)

-- 32 small letters and digits, and a form that changes at most their case
pub record Written (alphabet : List ℕ) (form : ℕ → ℕ) : Type 0 where
  pub test : is_alphabet alphabet ≡ true
  pub folds : every 32 (λ q. eqb (small (form (character_of alphabet q))) (character_of alphabet q)) ≡ true

-- the quintet of a byte; a byte that is none of the 32 characters counts as 0, and is refused later
unfoldable pub quintet_of : (alphabet : List ℕ) → ℕ → ℕ
quintet_of alphabet b = value_of alphabet b % 32

-- the last n quintets of the number x, highest first, before the rest
unfoldable pub quintets : (n x : ℕ) → List ℕ → List ℕ
quintets zero x rest = rest
quintets (suc n) x rest = x / 2 ^ (5 * n) % 32 ∷ quintets n x rest

-- the number whose quintets are those of x and the first n of a row of bytes
unfoldable pub head_number : (alphabet : List ℕ) → (n x : ℕ) → List ℕ → ℕ
head_number alphabet zero x bytes = x
head_number alphabet (suc n) x [] = x
head_number alphabet (suc n) x (b ∷ bytes) = head_number alphabet n (x * 32 + quintet_of alphabet b) bytes
