-- The symbols and the label of a text. The bits of the head and of the codes go out in fives, highest
-- first. Whatever LDH is between two codes comes after the quintet that holds the last bit before it,
-- so that quintet may hold up to four bits of the code that follows.
use Rattle.std.specs.Prelude.{ℕ, ◌+◌, ◌-◌, ◌*◌, ◌/◌, ◌^◌, Bool, false, not, List, [], ◌∷◌, ◌++◌, eqb}
use Rattle.basis.specs.Tests.{pick, both}
use Rattle.ascii.specs.Ldh.{is_ldh, is_host_label}
use Rattle.alphabet.specs.Alphabet.{brace}
use Rattle.copying.specs.Symbols.{bytes_of, capital, quintets}
use Rattle.copying.specs.Modes.{copying_after, switch_if}
use Rattle.brace_format.specs.declared.style.Style.{Style}
use Rattle.brace_format.specs.Signature.{signature, is_signed}
use Rattle.brace_format.specs.Style.{head_width, head_value, width_of, code_of}
use Rattle.brace_choice.specs.Choice.{style_of}

-- how many quintets more the bits of a code of so many bits take, the first k of which are out
unfoldable pub quintet_count : (k width : ℕ) → ℕ
quintet_count k width = (width - k + 4) / 5

-- how many bits of what follows the last of those quintets holds
unfoldable pub spare_count : (k width : ℕ) → ℕ
spare_count k width = k + 5 * quintet_count k width - width

-- the first k bits of the codes of a text: those of its first code, or zeros where it has none
unfoldable pub ahead : Style → ℕ → List ℕ → ℕ
ahead s k [] = 0
ahead s k (u ∷ t) = pick (is_ldh u) (ahead s k t) (code_of s u / 2 ^ (width_of s u - k))

-- the quintets of a code, the first k bits of which are out, before the rest; the text t follows it
unfoldable pub code_quintets : Style → (k width value : ℕ) → (t rest : List ℕ) → List ℕ
code_quintets s k width value t rest =
    quintets (quintet_count k width) (value * 2 ^ spare_count k width + ahead s (spare_count k width) t) rest

-- the symbols of the unit u before the rest, with k bits out; t follows it in the text, and copying
-- says whether letters are being copied
unfoldable pub unit_symbols : Style → (copying : Bool) (k u : ℕ) → (t rest : List ℕ) → List ℕ
unit_symbols s copying k u t rest =
    pick (eqb u 45) (45 ∷ 45 ∷ rest)
    (pick (is_ldh u) (switch_if (not copying) (u ∷ rest))
    (switch_if copying (code_quintets s k (width_of s u) (code_of s u) t rest)))

-- how many bits are out after the unit u
unfoldable pub out_after : Style → (k u : ℕ) → ℕ
out_after s k u = pick (is_ldh u) k (spare_count k (width_of s u))

-- the symbols of a text after the head
unfoldable pub symbols_from : Style → (copying : Bool) (k : ℕ) → List ℕ → List ℕ
symbols_from s copying k [] = []
symbols_from s copying k (u ∷ t) = unit_symbols s copying k u t (symbols_from s (copying_after copying u) (out_after s k u) t)

-- the symbols of a text that is not plain, before the signature: the head, then the units
unfoldable pub body_of : Style → List ℕ → List ℕ
body_of s t = code_quintets s 0 (head_width s) (head_value s) t (symbols_from s false (spare_count 0 (head_width s)) t)

-- a text that goes out as it is: a host label that does not end with the signature
unfoldable pub is_plain : List ℕ → Bool
is_plain t = both (is_host_label t) (not (is_signed t))

-- the symbols of a text
unfoldable pub symbols_of : List ℕ → List ℕ
symbols_of t = pick (is_plain t) t (body_of (style_of t) t ++ signature)

-- the label of a text: coded characters in capitals
unfoldable pub label_of : List ℕ → List ℕ
label_of t = bytes_of brace capital (symbols_of t)
