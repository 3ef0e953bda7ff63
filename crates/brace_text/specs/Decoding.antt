-- The text of a label, byte by byte: the mode, and a queue of bits (how many, and their value) from
-- which each code is taken when its last bit is in. Every row of bytes is read to some text; it is
-- accepted if that text may be written and has this label.
use Rattle.std.specs.Prelude.{ℕ, ◌+◌, ◌-◌, ◌*◌, ◌/◌, ◌%◌, ◌^◌, Bool, List, [], ◌∷◌, eqb, leb, length, take, drop}
use Rattle.basis.specs.Tests.{pick}
use Rattle.basis.specs.Rows.{at}
use Rattle.alphabet.specs.Alphabet.{brace}
use Rattle.copying.specs.Symbols.{head_number, quintet_of}
use Rattle.copying.specs.Modes.{is_copied, is_coded, is_second, next_mode}
use Rattle.copying.specs.declared.Mode.{Mode}
use Rattle.copying.specs.declared.Mode.TheVariants.{Coded}
use Rattle.brace_format.specs.declared.style.Style.{Style}
use Rattle.brace_format.specs.declared.style.Style.TheVariants.{HalfRow, Row, Mixed, NoRow}
use Rattle.brace_format.specs.Signature.{is_signed}
use Rattle.brace_format.specs.Style.{width_by, unit_of}

-- how many bits the first code in a queue of k bits and value v has
unfoldable pub due_width : Style → (k v : ℕ) → ℕ
due_width s k v = width_by s (v / 2 ^ (k - 2))

-- a whole code is in the queue
unfoldable pub is_whole : Style → (k v : ℕ) → Bool
is_whole s k v = leb (due_width s k v) k

-- how many bits the queue has without that code
unfoldable pub count_left : Style → (k v : ℕ) → ℕ
count_left s k v = pick (is_whole s k v) (k - due_width s k v) k

-- and their value
unfoldable pub value_left : Style → (k v : ℕ) → ℕ
value_left s k v = pick (is_whole s k v) (v % 2 ^ (k - due_width s k v)) v

-- the unit of that code, before the rest
unfoldable pub unit_taken : Style → (k v : ℕ) → List ℕ → List ℕ
unit_taken s k v rest = pick (is_whole s k v) (unit_of s (v / 2 ^ (k - due_width s k v)) ∷ rest) rest

-- how many bits the queue has after the byte b
unfoldable pub next_count : Style → Mode → (k v b : ℕ) → ℕ
next_count s m k v b = pick (is_coded m b) (count_left s (k + 5) (v * 32 + quintet_of brace b)) k

-- and their value
unfoldable pub next_value : Style → Mode → (k v b : ℕ) → ℕ
next_value s m k v b = pick (is_coded m b) (value_left s (k + 5) (v * 32 + quintet_of brace b)) v

-- what the byte b adds to the text, before the rest: the second hyphen of a pair a hyphen, a copied
-- byte itself, a coded one the unit whose code it ends
unfoldable pub adds : Style → Mode → (k v b : ℕ) → List ℕ → List ℕ
adds s m k v b rest =
    pick (eqb b 45) (pick (is_second m) (45 ∷ rest) rest)
    (pick (is_copied m) (b ∷ rest) (unit_taken s (k + 5) (v * 32 + quintet_of brace b) rest))

-- the text of a row of bytes after the head
unfoldable pub text_from : Style → Mode → (k v : ℕ) → List ℕ → List ℕ
text_from s m k v [] = []
text_from s m k v (b ∷ l) = adds s m k v b (text_from s (next_mode m b) (next_count s m k v b) (next_value s m k v b) l)

-- the head of a body is the characters that hold the bits of the style: how many they are, by the
-- style's two bits (0 to 3)
unfoldable pub head_length : (kind : ℕ) → ℕ
head_length kind = pick (eqb kind 0) 3 (pick (eqb kind 1) 2 (pick (eqb kind 2) 3 1))

-- how many bits of the first code the head holds besides
unfoldable pub head_spare : (kind : ℕ) → ℕ
head_spare kind = pick (eqb kind 0) 4 (pick (eqb kind 1) 0 (pick (eqb kind 2) 4 3))

-- the style, by its two bits and the number that the head's quintets make
unfoldable pub head_style : (kind x : ℕ) → Style
head_style kind x = pick (eqb kind 0) (HalfRow (x / 16 % 512)) (pick (eqb kind 1) (Row (x % 256)) (pick (eqb kind 2) (Mixed (x / 16 % 512)) NoRow))

-- the text of a body with these two bits and this number in its head
unfoldable pub text_by : (kind x : ℕ) → List ℕ → List ℕ
text_by kind x l = text_from (head_style kind x) Coded (head_spare kind) (x % 2 ^ head_spare kind) (drop (head_length kind) l)

-- the two bits of a body's style
unfoldable pub kind_of : List ℕ → ℕ
kind_of l = quintet_of brace (at l 0) / 8

-- the text of a body, what is before the signature
unfoldable pub body_text : List ℕ → List ℕ
body_text l = text_by (kind_of l) (head_number brace (head_length (kind_of l)) 0 l) l

-- the text of a label: of its body, or without the signature the label itself
unfoldable pub text_of : List ℕ → List ℕ
text_of l = pick (is_signed l) (body_text (take (length l - 4) l)) l
