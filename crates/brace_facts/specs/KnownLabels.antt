-- Texts and labels that tell the rules apart, and what is computed of them.
use Rattle.std.specs.Prelude.{ℕ, zero, suc, ◌≡◌, List, [], ◌∷◌, map, length}
use Rattle.basis.specs.Outcome.{done, refused}
use Rattle.brace_symbols.specs.Encoding.{label_of}
use Rattle.brace_text.specs.Decoding.{text_of}
use Rattle.brace.specs.Answer.{encode_outcome, decode_outcome}

-- texts, and their labels: 22ZI-8Q9, 22Z-a-I-8Q9, 22ZM---a---W-8Q9, TIAASC6MI2-8Q9, JI66J8MI2-8Q9,
-- JI676CAQMI2-8Q9, I2QKWG33JTIAA-8Q9, I6ESC7M3B3HM2-8Q9, YS9VGZE-8Q9, 8Q9, S-a--8q9-8Q9,
-- S---ab-8Q9, aBc, BIACJ2-A-8Q9, 22ZI2-8Q9, T-a-IAASC6MI2-8Q9
unfoldable pub texts : List (List ℕ)
texts =
    (0xfc ∷ [])
    ∷ (0x61 ∷ 0xfc ∷ [])
    ∷ (0xfc ∷ 0x2d ∷ 0x61 ∷ 0x2d ∷ 0xfc ∷ [])
    ∷ (0x3042 ∷ 0x30a2 ∷ 0x4e00 ∷ [])
    ∷ (0x3042 ∷ 0x3044 ∷ 0x4e00 ∷ [])
    ∷ (0x3042 ∷ 0x30a2 ∷ 0x30a2 ∷ 0x4e00 ∷ [])
    ∷ (0xe9 ∷ 0xf1 ∷ 0x431 ∷ 0x3042 ∷ [])
    ∷ (0x30a2 ∷ 0x30a4 ∷ 0x42f ∷ 0x4b0 ∷ [])
    ∷ (0xd83e ∷ 0xddf6 ∷ [])
    ∷ (0x38 ∷ 0x51 ∷ 0x39 ∷ [])
    ∷ (0x61 ∷ 0x2d ∷ 0x38 ∷ 0x71 ∷ 0x39 ∷ [])
    ∷ (0x2d ∷ 0x61 ∷ 0x62 ∷ [])
    ∷ (0x61 ∷ 0x42 ∷ 0x63 ∷ [])
    ∷ (0x3042 ∷ 0x30a2 ∷ 0x41 ∷ [])
    ∷ (0xfc ∷ 0x80 ∷ [])
    ∷ (0x61 ∷ 0x3042 ∷ 0x30a2 ∷ 0x4e00 ∷ [])
    ∷ []

unfoldable pub labels : List (List ℕ)
labels =
    (50 ∷ 50 ∷ 90 ∷ 73 ∷ 45 ∷ 56 ∷ 81 ∷ 57 ∷ [])
    ∷ (50 ∷ 50 ∷ 90 ∷ 45 ∷ 97 ∷ 45 ∷ 73 ∷ 45 ∷ 56 ∷ 81 ∷ 57 ∷ [])
    ∷ (50 ∷ 50 ∷ 90 ∷ 77 ∷ 45 ∷ 45 ∷ 45 ∷ 97 ∷ 45 ∷ 45 ∷ 45 ∷ 87 ∷ 45 ∷ 56 ∷ 81 ∷ 57 ∷ [])
    ∷ (84 ∷ 73 ∷ 65 ∷ 65 ∷ 83 ∷ 67 ∷ 54 ∷ 77 ∷ 73 ∷ 50 ∷ 45 ∷ 56 ∷ 81 ∷ 57 ∷ [])
    ∷ (74 ∷ 73 ∷ 54 ∷ 54 ∷ 74 ∷ 56 ∷ 77 ∷ 73 ∷ 50 ∷ 45 ∷ 56 ∷ 81 ∷ 57 ∷ [])
    ∷ (74 ∷ 73 ∷ 54 ∷ 55 ∷ 54 ∷ 67 ∷ 65 ∷ 81 ∷ 77 ∷ 73 ∷ 50 ∷ 45 ∷ 56 ∷ 81 ∷ 57 ∷ [])
    ∷ (73 ∷ 50 ∷ 81 ∷ 75 ∷ 87 ∷ 71 ∷ 51 ∷ 51 ∷ 74 ∷ 84 ∷ 73 ∷ 65 ∷ 65 ∷ 45 ∷ 56 ∷ 81 ∷ 57 ∷ [])
    ∷ (73 ∷ 54 ∷ 69 ∷ 83 ∷ 67 ∷ 55 ∷ 77 ∷ 51 ∷ 66 ∷ 51 ∷ 72 ∷ 77 ∷ 50 ∷ 45 ∷ 56 ∷ 81 ∷ 57 ∷ [])
    ∷ (89 ∷ 83 ∷ 57 ∷ 86 ∷ 71 ∷ 90 ∷ 69 ∷ 45 ∷ 56 ∷ 81 ∷ 57 ∷ [])
    ∷ (56 ∷ 81 ∷ 57 ∷ [])
    ∷ (83 ∷ 45 ∷ 97 ∷ 45 ∷ 45 ∷ 56 ∷ 113 ∷ 57 ∷ 45 ∷ 56 ∷ 81 ∷ 57 ∷ [])
    ∷ (83 ∷ 45 ∷ 45 ∷ 45 ∷ 97 ∷ 98 ∷ 45 ∷ 56 ∷ 81 ∷ 57 ∷ [])
    ∷ (97 ∷ 66 ∷ 99 ∷ [])
    ∷ (66 ∷ 73 ∷ 65 ∷ 67 ∷ 74 ∷ 50 ∷ 45 ∷ 65 ∷ 45 ∷ 56 ∷ 81 ∷ 57 ∷ [])
    ∷ (50 ∷ 50 ∷ 90 ∷ 73 ∷ 50 ∷ 45 ∷ 56 ∷ 81 ∷ 57 ∷ [])
    ∷ (84 ∷ 45 ∷ 97 ∷ 45 ∷ 73 ∷ 65 ∷ 65 ∷ 83 ∷ 67 ∷ 54 ∷ 77 ∷ 73 ∷ 50 ∷ 45 ∷ 56 ∷ 81 ∷ 57 ∷ [])
    ∷ []

-- labels in other case, and one of a hyphen at the end of a text: 22zI-Ab-8q9, 22ZI---8Q9,
-- 22zi-8q9, jI66j8mi2-8Q9
unfoldable pub other_labels : List (List ℕ)
other_labels =
    (50 ∷ 50 ∷ 122 ∷ 73 ∷ 45 ∷ 65 ∷ 98 ∷ 45 ∷ 56 ∷ 113 ∷ 57 ∷ [])
    ∷ (50 ∷ 50 ∷ 90 ∷ 73 ∷ 45 ∷ 45 ∷ 45 ∷ 56 ∷ 81 ∷ 57 ∷ [])
    ∷ (50 ∷ 50 ∷ 122 ∷ 105 ∷ 45 ∷ 56 ∷ 113 ∷ 57 ∷ [])
    ∷ (106 ∷ 73 ∷ 54 ∷ 54 ∷ 106 ∷ 56 ∷ 109 ∷ 105 ∷ 50 ∷ 45 ∷ 56 ∷ 81 ∷ 57 ∷ [])
    ∷ []

unfoldable pub other_texts : List (List ℕ)
other_texts =
    (0xfc ∷ 0x41 ∷ 0x62 ∷ [])
    ∷ (0xfc ∷ 0x2d ∷ [])
    ∷ (0xfc ∷ [])
    ∷ (0x3042 ∷ 0x3044 ∷ 0x4e00 ∷ [])
    ∷ []

-- labels that no text has: A2ZI-8Q9, I2RS-8Q9, 22693-8Q9, 22ZI--8Q9, S-abc-8Q9, 22E6-8Q9, S-8Q9,
-- 222-8Q9, 22ZJ-8Q9, 22-8Q9, 8S9S-8Q9, a.b-8Q9, -ab-8Q9, S2ZI-8Q9, JIK6B833HS6Q2-8Q9,
-- TI-a-AASC6MI2-8Q9, ab-8q9, -8Q9, 22ZI-.-8Q9. In JIK6B833HS6Q2-8Q9 the half-row is the higher of
-- a tie, in TI-a-AASC6MI2-8Q9 the letter comes a character late, and S2ZI-8Q9 is no-row style for FC.
unfoldable pub no_labels : List (List ℕ)
no_labels =
    (65 ∷ 50 ∷ 90 ∷ 73 ∷ 45 ∷ 56 ∷ 81 ∷ 57 ∷ [])
    ∷ (73 ∷ 50 ∷ 82 ∷ 83 ∷ 45 ∷ 56 ∷ 81 ∷ 57 ∷ [])
    ∷ (50 ∷ 50 ∷ 54 ∷ 57 ∷ 51 ∷ 45 ∷ 56 ∷ 81 ∷ 57 ∷ [])
    ∷ (50 ∷ 50 ∷ 90 ∷ 73 ∷ 45 ∷ 45 ∷ 56 ∷ 81 ∷ 57 ∷ [])
    ∷ (83 ∷ 45 ∷ 97 ∷ 98 ∷ 99 ∷ 45 ∷ 56 ∷ 81 ∷ 57 ∷ [])
    ∷ (50 ∷ 50 ∷ 69 ∷ 54 ∷ 45 ∷ 56 ∷ 81 ∷ 57 ∷ [])
    ∷ (83 ∷ 45 ∷ 56 ∷ 81 ∷ 57 ∷ [])
    ∷ (50 ∷ 50 ∷ 50 ∷ 45 ∷ 56 ∷ 81 ∷ 57 ∷ [])
    ∷ (50 ∷ 50 ∷ 90 ∷ 74 ∷ 45 ∷ 56 ∷ 81 ∷ 57 ∷ [])
    ∷ (50 ∷ 50 ∷ 45 ∷ 56 ∷ 81 ∷ 57 ∷ [])
    ∷ (56 ∷ 83 ∷ 57 ∷ 83 ∷ 45 ∷ 56 ∷ 81 ∷ 57 ∷ [])
    ∷ (97 ∷ 46 ∷ 98 ∷ 45 ∷ 56 ∷ 81 ∷ 57 ∷ [])
    ∷ (45 ∷ 97 ∷ 98 ∷ 45 ∷ 56 ∷ 81 ∷ 57 ∷ [])
    ∷ (83 ∷ 50 ∷ 90 ∷ 73 ∷ 45 ∷ 56 ∷ 81 ∷ 57 ∷ [])
    ∷ (74 ∷ 73 ∷ 75 ∷ 54 ∷ 66 ∷ 56 ∷ 51 ∷ 51 ∷ 72 ∷ 83 ∷ 54 ∷ 81 ∷ 50 ∷ 45 ∷ 56 ∷ 81 ∷ 57 ∷ [])
    ∷ (84 ∷ 73 ∷ 45 ∷ 97 ∷ 45 ∷ 65 ∷ 65 ∷ 83 ∷ 67 ∷ 54 ∷ 77 ∷ 73 ∷ 50 ∷ 45 ∷ 56 ∷ 81 ∷ 57 ∷ [])
    ∷ (97 ∷ 98 ∷ 45 ∷ 56 ∷ 113 ∷ 57 ∷ [])
    ∷ (45 ∷ 56 ∷ 81 ∷ 57 ∷ [])
    ∷ (50 ∷ 50 ∷ 90 ∷ 73 ∷ 45 ∷ 46 ∷ 45 ∷ 56 ∷ 81 ∷ 57 ∷ [])
    ∷ []

-- the row of u, n times, before the rest
unfoldable pub times : ℕ → ℕ → List ℕ → List ℕ
times zero u rest = rest
times (suc n) u rest = u ∷ times n u rest

-- the texts are encoded as the labels, and the labels decoded as the texts
pub record Computed : Type 0 where
  pub encoded : map label_of texts ≡ labels
  pub decoded : map text_of labels ≡ texts
  pub accepted : map (decode_outcome 63) labels ≡ map (λ t. done (length t)) texts
  pub other_decoded : map text_of other_labels ≡ other_texts
  pub other_accepted : map (decode_outcome 63) other_labels ≡ map (λ t. done (length t)) other_texts
  pub not_accepted : map (decode_outcome 63) no_labels ≡ map (λ l. refused 9 0) no_labels

-- refusals in order: without units 2; 61 DDF6 D83E 10 at 1, and 64 times a, then D800, 10 at 64;
-- FC and 55 times a, and 41 times FC, 3, with one less each 63 bytes; a.b 7 at 1, -a.b 7 at 2, -ab
-- 5
pub record ComputedRefusals : Type 0 where
  pub encoding :
      map (encode_outcome 63)
      ([]
      ∷ (0x61 ∷ 0xddf6 ∷ 0xd83e ∷ [])
      ∷ times 64 0x61 (0xd800 ∷ [])
      ∷ (0xfc ∷ times 55 0x61 [])
      ∷ times 41 0xfc []
      ∷ (0xfc ∷ times 54 0x61 [])
      ∷ times 40 0xfc [] ∷ [])
      ≡ refused 2 0 ∷ refused 10 1 ∷ refused 10 64 ∷ refused 3 0 ∷ refused 3 0 ∷ done 63 ∷ done 63 ∷ []
  pub decoding :
      map (decode_outcome 63)
      ((97 ∷ 46 ∷ 98 ∷ []) ∷ (45 ∷ 97 ∷ 46 ∷ 98 ∷ []) ∷ (45 ∷ 97 ∷ 98 ∷ []) ∷ [])
      ≡ refused 7 1 ∷ refused 7 2 ∷ refused 5 0 ∷ []
