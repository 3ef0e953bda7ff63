-- The facts about a codec from which the demands follow, and what they say given room.
use Prim.Native.Nat.{ℕ, ◌≤◌, ◌<◌}
use mathlib.Core.Path.{◌≡◌}
use mathlib.Core.List.{List, ◌∷◌}
use lib.ListN.{length}
use native.Mathlib.Omega.{arith}
use Rattle.basis.specs.Causes.{whole, Settles}
use Rattle.basis.specs.Codec.{Codec, Writable, Readable}
use Rattle.basis.proofs.Causes.{settle-without}

module _ (c : Codec) where
  -- demand 2: the causes settle the answers; the text of a label that may be read may be written, and has this label; bytes that
  -- count as the label of a text that may be written may be read, as that text
  pub record Faithful : Type 0 where
    pub encoding : (capacity : ℕ) (t : List ℕ) → Settles (whole 1 (capacity < 63) ∷ c.text_causes t) (length (c.label_of t)) (c.encode_outcome capacity t)
    pub decoding : (capacity : ℕ) (l : List ℕ) → Settles (whole 1 (capacity < 63) ∷ c.label_causes l) (length (c.text_of l)) (c.decode_outcome capacity l)
    pub writable : (l : List ℕ) → Readable c l → Writable c (c.text_of l)
    pub respelled : (l : List ℕ) → Readable c l → c.SameLabel (c.text_of l) l
    pub readable : (t l : List ℕ) → Writable c t → c.SameLabel t l → Readable c l
    pub text-is : (t l : List ℕ) → Writable c t → c.SameLabel t l → c.text_of l ≡ t

module _ (c : Codec) (f : Faithful c) where
  -- given room, the causes other than 1 settle the answers
  pub encode-settled : (capacity : ℕ) (t : List ℕ) → 63 ≤ capacity → Settles (c.text_causes t) (length (c.label_of t)) (c.encode_outcome capacity t)
  encode-settled capacity t room = settle-without (whole 1 (capacity < 63)) (λ p h. omega (arith, room, h.1)) (f.encoding capacity t)

  pub decode-settled : (capacity : ℕ) (l : List ℕ) → 63 ≤ capacity → Settles (c.label_causes l) (length (c.text_of l)) (c.decode_outcome capacity l)
  decode-settled capacity l room = settle-without (whole 1 (capacity < 63)) (λ p h. omega (arith, room, h.1)) (f.decoding capacity l)
