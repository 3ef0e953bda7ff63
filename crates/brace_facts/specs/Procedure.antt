-- Encoding as the draft words it: a queue of bits (how many, and their value), and a buffer in which
-- LDH waits until the bits before it are out. It gives the same symbols as `brace_symbols`' definitions.
use Rattle.std.specs.Prelude.{ℕ, ◌+◌, ◌-◌, ◌*◌, ◌/◌, ◌%◌, ◌^◌, Bool, false, not, ◌||◌, List, [], ◌∷◌, ◌++◌, eqb}
use Rattle.basis.specs.Tests.{pick}
use Rattle.ascii.specs.Ldh.{is_ldh}
use Rattle.copying.specs.Symbols.{quintets}
use Rattle.copying.specs.Modes.{switch_if}
use Rattle.brace_format.specs.Style.{head_width, head_value, width_of, code_of}
use Rattle.brace_format.specs.declared.style.Style.{Style}

-- the buffer contains any non-hyphens
unfoldable pub has_letter : List ℕ → Bool
has_letter [] = false
has_letter (x ∷ buffer) = not (eqb x 45) || has_letter buffer

-- while the queue contains at least 5 bits: dequeue 5 bits, output their character
unfoldable pub dequeue_all : ℕ → ℕ → List ℕ → List ℕ
dequeue_all n v rest = quintets (n / 5) (v / 2 ^ (n % 5)) rest

-- a code of w bits and value c: the buffer first if the queue is empty; enqueue the code, dequeue 5 bits, then the buffer, then all fives
unfoldable pub enqueue_code : ℕ → ℕ → ℕ → ℕ → List ℕ → List ℕ → List ℕ
enqueue_code n v w c buffer rest =
    pick (eqb n 0) (buffer ++ dequeue_all w c rest)
    ((v * 2 ^ w + c) / 2 ^ (n + w - 5) ∷ buffer ++ dequeue_all (n + w - 5) ((v * 2 ^ w + c) % 2 ^ (n + w - 5)) rest)

-- the buffer, and the queue's bits and value, after the unit u
unfoldable pub buffer_after : List ℕ → ℕ → List ℕ
buffer_after buffer u = pick (eqb u 45) (buffer ++ 45 ∷ 45 ∷ []) (pick (is_ldh u) (buffer ++ switch_if (not (has_letter buffer)) (u ∷ [])) [])

unfoldable pub bits_after : Style → ℕ → ℕ → ℕ
bits_after s n u = pick (is_ldh u) n ((n + width_of s u) % 5)

unfoldable pub value_after : Style → ℕ → ℕ → ℕ → ℕ
value_after s n v u = pick (is_ldh u) v ((v * 2 ^ width_of s u + code_of s u) % 2 ^ ((n + width_of s u) % 5))

-- what the unit u puts out before the rest: LDH only goes to the buffer; a code closes the buffer with a hyphen if it has letters
unfoldable pub unit_out : Style → ℕ → ℕ → List ℕ → ℕ → List ℕ → List ℕ
unit_out s n v buffer u rest = pick (is_ldh u) rest (enqueue_code n v (width_of s u) (code_of s u) (buffer ++ switch_if (has_letter buffer) []) rest)

-- the units in order; at the end the last bits, filled up with zeros, and the buffer
unfoldable pub draft_from : Style → ℕ → ℕ → List ℕ → List ℕ → List ℕ
draft_from s n v buffer [] = pick (eqb n 0) buffer (v * 2 ^ (5 - n) ∷ buffer)
draft_from s n v buffer (u ∷ t) = unit_out s n v buffer u (draft_from s (bits_after s n u) (value_after s n v u) (buffer_after buffer u) t)

-- all that stands before the signature
unfoldable pub draft_body : Style → List ℕ → List ℕ
draft_body s t = dequeue_all (head_width s) (head_value s) (draft_from s (head_width s % 5) (head_value s % 2 ^ (head_width s % 5)) [] t)
