-- The published examples: the drafts' own (000 and 002), and those of the AMC-ACE-M draft (001).
use Rattle.std.specs.Prelude.{ℕ, ◌≡◌, Bool, true, false, List, [], ◌∷◌, ◌++◌, map, length}
use Rattle.basis.specs.Tests.{both}
use Rattle.basis.specs.Outcome.{done}
use Rattle.alphabet.specs.Alphabet.{brace}
use Rattle.copying.specs.Symbols.{are_for}
use Rattle.brace_symbols.specs.Encoding.{symbols_of, label_of}
use Rattle.brace_text.specs.Decoding.{text_of}
use Rattle.brace.specs.Answer.{decode_outcome}

-- of 000 and 002: UVJ7FUAQCAHY982XA---with--super--monkeys-8Q9,
-- JI7-hello--another--way---V3JHAEFVD2UFJ62-8Q9, BIDPRDMP9WT7MI-8Q9, 3IU8PAZT-de-PYGI-8Q9,
-- 229--T2B4-1-W-00-I9I---8Q9
unfoldable pub draft_texts : List (List ℕ)
draft_texts =
    (0x5b89 ∷ 0x5ba4 ∷ 0x5948 ∷ 0x7f8e ∷ 0x6075 ∷ 0x2d ∷ 0x77 ∷ 0x69 ∷ 0x74 ∷ 0x68 ∷ 0x2d ∷ 0x73 ∷ 0x75 ∷ 0x70 ∷ 0x65 ∷ 0x72 ∷ 0x2d ∷ 0x6d ∷ 0x6f ∷ 0x6e ∷ 0x6b ∷ 0x65 ∷ 0x79 ∷ 0x73 ∷ [])
    ∷ (0x68 ∷ 0x65 ∷ 0x6c ∷ 0x6c ∷ 0x6f ∷ 0x2d ∷ 0x61 ∷ 0x6e ∷ 0x6f ∷ 0x74 ∷ 0x68 ∷ 0x65 ∷ 0x72 ∷ 0x2d ∷ 0x77 ∷ 0x61 ∷ 0x79 ∷ 0x2d ∷ 0x305d ∷ 0x308c ∷ 0x305e ∷ 0x308c ∷ 0x306e ∷ 0x5834 ∷ 0x6240 ∷ [])
    ∷ (0x305d ∷ 0x306e ∷ 0x30b9 ∷ 0x30d4 ∷ 0x30fc ∷ 0x30c9 ∷ 0x3067 ∷ [])
    ∷ (0x30d1 ∷ 0x30d5 ∷ 0x30a3 ∷ 0x30fc ∷ 0x64 ∷ 0x65 ∷ 0x30eb ∷ 0x30f3 ∷ 0x30d0 ∷ [])
    ∷ (0x2d ∷ 0x3e ∷ 0x20 ∷ 0x24 ∷ 0x31 ∷ 0x2e ∷ 0x30 ∷ 0x30 ∷ 0x20 ∷ 0x3c ∷ 0x2d ∷ [])
    ∷ []

unfoldable pub draft_labels : List (List ℕ)
draft_labels =
    (85 ∷ 86 ∷ 74 ∷ 55 ∷ 70 ∷ 85 ∷ 65 ∷ 81 ∷ 67 ∷ 65 ∷ 72 ∷ 89 ∷ 57 ∷ 56 ∷ 50 ∷ 88 ∷ 65 ∷ 45 ∷ 45 ∷ 45 ∷ 119 ∷ 105 ∷ 116 ∷ 104 ∷ 45 ∷ 45 ∷ 115 ∷ 117 ∷ 112 ∷ 101 ∷ 114 ∷ 45 ∷ 45 ∷ 109 ∷ 111 ∷ 110 ∷ 107 ∷ 101 ∷ 121 ∷ 115 ∷ 45 ∷ 56 ∷ 81 ∷ 57 ∷ [])
    ∷ (74 ∷ 73 ∷ 55 ∷ 45 ∷ 104 ∷ 101 ∷ 108 ∷ 108 ∷ 111 ∷ 45 ∷ 45 ∷ 97 ∷ 110 ∷ 111 ∷ 116 ∷ 104 ∷ 101 ∷ 114 ∷ 45 ∷ 45 ∷ 119 ∷ 97 ∷ 121 ∷ 45 ∷ 45 ∷ 45 ∷ 86 ∷ 51 ∷ 74 ∷ 72 ∷ 65 ∷ 69 ∷ 70 ∷ 86 ∷ 68 ∷ 50 ∷ 85 ∷ 70 ∷ 74 ∷ 54 ∷ 50 ∷ 45 ∷ 56 ∷ 81 ∷ 57 ∷ [])
    ∷ (66 ∷ 73 ∷ 68 ∷ 80 ∷ 82 ∷ 68 ∷ 77 ∷ 80 ∷ 57 ∷ 87 ∷ 84 ∷ 55 ∷ 77 ∷ 73 ∷ 45 ∷ 56 ∷ 81 ∷ 57 ∷ [])
    ∷ (51 ∷ 73 ∷ 85 ∷ 56 ∷ 80 ∷ 65 ∷ 90 ∷ 84 ∷ 45 ∷ 100 ∷ 101 ∷ 45 ∷ 80 ∷ 89 ∷ 71 ∷ 73 ∷ 45 ∷ 56 ∷ 81 ∷ 57 ∷ [])
    ∷ (50 ∷ 50 ∷ 57 ∷ 45 ∷ 45 ∷ 84 ∷ 50 ∷ 66 ∷ 52 ∷ 45 ∷ 49 ∷ 45 ∷ 87 ∷ 45 ∷ 48 ∷ 48 ∷ 45 ∷ 73 ∷ 57 ∷ 73 ∷ 45 ∷ 45 ∷ 45 ∷ 56 ∷ 81 ∷ 57 ∷ [])
    ∷ []

-- of 001, A to L, N to P and R: printed without the signature, with small coded characters; the
-- copied letter of A is printed small, and is so in its text here; the label of N is that of the
-- text with its first letter small (43F for 41F). M and Q are cut in print, and too long.
unfoldable pub later_texts : List (List ℕ)
later_texts =
    (0x33 ∷ 0x5e74 ∷ 0x62 ∷ 0x7d44 ∷ 0x91d1 ∷ 0x516b ∷ 0x5148 ∷ 0x751f ∷ [])
    ∷ (0x5b89 ∷ 0x5ba4 ∷ 0x5948 ∷ 0x7f8e ∷ 0x6075 ∷ 0x2d ∷ 0x77 ∷ 0x69 ∷ 0x74 ∷ 0x68 ∷ 0x2d ∷ 0x53 ∷ 0x55 ∷ 0x50 ∷ 0x45 ∷ 0x52 ∷ 0x2d ∷ 0x4d ∷ 0x4f ∷ 0x4e ∷ 0x4b ∷ 0x45 ∷ 0x59 ∷ 0x53 ∷ [])
    ∷ (0x48 ∷ 0x65 ∷ 0x6c ∷ 0x6c ∷ 0x6f ∷ 0x2d ∷ 0x41 ∷ 0x6e ∷ 0x6f ∷ 0x74 ∷ 0x68 ∷ 0x65 ∷ 0x72 ∷ 0x2d ∷ 0x57 ∷ 0x61 ∷ 0x79 ∷ 0x2d ∷ 0x305d ∷ 0x308c ∷ 0x305e ∷ 0x308c ∷ 0x306e ∷ 0x5834 ∷ 0x6240 ∷ [])
    ∷ (0x3072 ∷ 0x3068 ∷ 0x3064 ∷ 0x5c4b ∷ 0x6839 ∷ 0x306e ∷ 0x4e0b ∷ 0x32 ∷ [])
    ∷ (0x4d ∷ 0x61 ∷ 0x6a ∷ 0x69 ∷ 0x3067 ∷ 0x4b ∷ 0x6f ∷ 0x69 ∷ 0x3059 ∷ 0x308b ∷ 0x35 ∷ 0x79d2 ∷ 0x524d ∷ [])
    ∷ (0x30d1 ∷ 0x30d5 ∷ 0x30a3 ∷ 0x30fc ∷ 0x64 ∷ 0x65 ∷ 0x30eb ∷ 0x30f3 ∷ 0x30d0 ∷ [])
    ∷ (0x305d ∷ 0x306e ∷ 0x30b9 ∷ 0x30d4 ∷ 0x30fc ∷ 0x30c9 ∷ 0x3067 ∷ [])
    ∷ (0x0644 ∷ 0x064a ∷ 0x0647 ∷ 0x0645 ∷ 0x0627 ∷ 0x0628 ∷ 0x062a ∷ 0x0643 ∷ 0x0644 ∷ 0x0645 ∷ 0x0648 ∷ 0x0634 ∷ 0x0639 ∷ 0x0631 ∷ 0x0628 ∷ 0x064a ∷ 0x061f ∷ [])
    ∷ (0x4ed6 ∷ 0x4eec ∷ 0x4e3a ∷ 0x4ec0 ∷ 0x4e48 ∷ 0x4e0d ∷ 0x8bf4 ∷ 0x4e2d ∷ 0x6587 ∷ [])
    ∷ (0x50 ∷ 0x72 ∷ 0x6f ∷ 0x010d ∷ 0x70 ∷ 0x72 ∷ 0x6f ∷ 0x73 ∷ 0x74 ∷ 0x011b ∷ 0x6e ∷ 0x65 ∷ 0x6d ∷ 0x6c ∷ 0x75 ∷ 0x76 ∷ 0x00ed ∷ 0x010d ∷ 0x65 ∷ 0x73 ∷ 0x6b ∷ 0x79 ∷ [])
    ∷ (0x05dc ∷ 0x05de ∷ 0x05d4 ∷ 0x05d4 ∷ 0x05dd ∷ 0x05e4 ∷ 0x05e9 ∷ 0x05d5 ∷ 0x05d8 ∷ 0x05dc ∷ 0x05d0 ∷ 0x05de ∷ 0x05d3 ∷ 0x05d1 ∷ 0x05e8 ∷ 0x05d9 ∷ 0x05dd ∷ 0x05e2 ∷ 0x05d1 ∷ 0x05e8 ∷ 0x05d9 ∷ 0x05ea ∷ [])
    ∷ (0x092f ∷ 0x0939 ∷ 0x0932 ∷ 0x094b ∷ 0x0917 ∷ 0x0939 ∷ 0x093f ∷ 0x0928 ∷ 0x094d ∷ 0x0926 ∷ 0x0940 ∷ 0x0915 ∷ 0x094d ∷ 0x092f ∷ 0x094b ∷ 0x0902 ∷ 0x0928 ∷ 0x0939 ∷ 0x0940 ∷ 0x0902 ∷ 0x092c ∷ 0x094b ∷ 0x0932 ∷ 0x0938 ∷ 0x0915 ∷ 0x0924 ∷ 0x0947 ∷ 0x0939 ∷ 0x0948 ∷ 0x0902 ∷ [])
    ∷ (0x043f ∷ 0x043e ∷ 0x0447 ∷ 0x0435 ∷ 0x043c ∷ 0x0443 ∷ 0x0436 ∷ 0x0435 ∷ 0x043e ∷ 0x043d ∷ 0x0438 ∷ 0x043d ∷ 0x0435 ∷ 0x0433 ∷ 0x043e ∷ 0x0432 ∷ 0x043e ∷ 0x0440 ∷ 0x044f ∷ 0x0442 ∷ 0x043f ∷ 0x043e ∷ 0x0440 ∷ 0x0443 ∷ 0x0441 ∷ 0x0441 ∷ 0x043a ∷ 0x0438 ∷ [])
    ∷ (0x50 ∷ 0x6f ∷ 0x72 ∷ 0x71 ∷ 0x75 ∷ 0xe9 ∷ 0x6e ∷ 0x6f ∷ 0x70 ∷ 0x75 ∷ 0x65 ∷ 0x64 ∷ 0x65 ∷ 0x6e ∷ 0x73 ∷ 0x69 ∷ 0x6d ∷ 0x70 ∷ 0x6c ∷ 0x65 ∷ 0x6d ∷ 0x65 ∷ 0x6e ∷ 0x74 ∷ 0x65 ∷ 0x68 ∷ 0x61 ∷ 0x62 ∷ 0x6c ∷ 0x61 ∷ 0x72 ∷ 0x65 ∷ 0x6e ∷ 0x45 ∷ 0x73 ∷ 0x70 ∷ 0x61 ∷ 0xf1 ∷ 0x6f ∷ 0x6c ∷ [])
    ∷ (0x4ed6 ∷ 0x5011 ∷ 0x7232 ∷ 0x4ec0 ∷ 0x9ebd ∷ 0x4e0d ∷ 0x8aaa ∷ 0x4e2d ∷ 0x6587 ∷ [])
    ∷ (0x2d ∷ 0x3e ∷ 0x20 ∷ 0x24 ∷ 0x31 ∷ 0x2e ∷ 0x30 ∷ 0x30 ∷ 0x20 ∷ 0x3c ∷ 0x2d ∷ [])
    ∷ []

unfoldable pub later_bodies : List (List ℕ)
later_bodies =
    (117 ∷ 45 ∷ 51 ∷ 45 ∷ 121 ∷ 103 ∷ 106 ∷ 45 ∷ 98 ∷ 45 ∷ 121 ∷ 110 ∷ 98 ∷ 54 ∷ 103 ∷ 106 ∷ 99 ∷ 55 ∷ 112 ∷ 112 ∷ 52 ∷ 107 ∷ 53 ∷ 112 ∷ 53 ∷ 119 ∷ [])
    ∷ (117 ∷ 118 ∷ 106 ∷ 55 ∷ 102 ∷ 117 ∷ 97 ∷ 113 ∷ 99 ∷ 97 ∷ 104 ∷ 121 ∷ 57 ∷ 56 ∷ 50 ∷ 120 ∷ 97 ∷ 45 ∷ 45 ∷ 45 ∷ 119 ∷ 105 ∷ 116 ∷ 104 ∷ 45 ∷ 45 ∷ 83 ∷ 85 ∷ 80 ∷ 69 ∷ 82 ∷ 45 ∷ 45 ∷ 77 ∷ 79 ∷ 78 ∷ 75 ∷ 69 ∷ 89 ∷ 83 ∷ [])
    ∷ (106 ∷ 105 ∷ 55 ∷ 45 ∷ 72 ∷ 101 ∷ 108 ∷ 108 ∷ 111 ∷ 45 ∷ 45 ∷ 65 ∷ 110 ∷ 111 ∷ 116 ∷ 104 ∷ 101 ∷ 114 ∷ 45 ∷ 45 ∷ 87 ∷ 97 ∷ 121 ∷ 45 ∷ 45 ∷ 45 ∷ 118 ∷ 51 ∷ 106 ∷ 104 ∷ 97 ∷ 101 ∷ 102 ∷ 118 ∷ 100 ∷ 50 ∷ 117 ∷ 102 ∷ 106 ∷ 54 ∷ 50 ∷ [])
    ∷ (106 ∷ 105 ∷ 57 ∷ 54 ∷ 117 ∷ 53 ∷ 54 ∷ 117 ∷ 119 ∷ 98 ∷ 104 ∷ 102 ∷ 50 ∷ 119 ∷ 113 ∷ 120 ∷ 110 ∷ 119 ∷ 52 ∷ 115 ∷ 45 ∷ 50 ∷ [])
    ∷ (106 ∷ 105 ∷ 56 ∷ 45 ∷ 77 ∷ 97 ∷ 106 ∷ 105 ∷ 45 ∷ 103 ∷ 45 ∷ 75 ∷ 111 ∷ 105 ∷ 45 ∷ 113 ∷ 101 ∷ 55 ∷ 120 ∷ 45 ∷ 53 ∷ 45 ∷ 119 ∷ 120 ∷ 55 ∷ 112 ∷ 54 ∷ 109 ∷ 97 ∷ [])
    ∷ (51 ∷ 105 ∷ 117 ∷ 56 ∷ 112 ∷ 97 ∷ 122 ∷ 116 ∷ 45 ∷ 100 ∷ 101 ∷ 45 ∷ 112 ∷ 121 ∷ 103 ∷ 105 ∷ [])
    ∷ (98 ∷ 105 ∷ 100 ∷ 112 ∷ 114 ∷ 100 ∷ 109 ∷ 112 ∷ 57 ∷ 119 ∷ 116 ∷ 55 ∷ 109 ∷ 105 ∷ [])
    ∷ (50 ∷ 56 ∷ 97 ∷ 107 ∷ 99 ∷ 106 ∷ 119 ∷ 99 ∷ 109 ∷ 112 ∷ 51 ∷ 99 ∷ 105 ∷ 119 ∷ 98 ∷ 52 ∷ 116 ∷ 51 ∷ 110 ∷ 103 ∷ 100 ∷ 52 ∷ 110 ∷ 98 ∷ 97 ∷ 122 ∷ [])
    ∷ (107 ∷ 103 ∷ 99 ∷ 113 ∷ 113 ∷ 115 ∷ 103 ∷ 112 ∷ 50 ∷ 54 ∷ 105 ∷ 53 ∷ 104 ∷ 52 ∷ 122 ∷ 110 ∷ 55 ∷ 114 ∷ 101 ∷ 113 ∷ 53 ∷ 105 ∷ [])
    ∷ (105 ∷ 51 ∷ 50 ∷ 45 ∷ 80 ∷ 114 ∷ 111 ∷ 45 ∷ 117 ∷ 45 ∷ 112 ∷ 114 ∷ 111 ∷ 115 ∷ 116 ∷ 45 ∷ 56 ∷ 121 ∷ 45 ∷ 110 ∷ 101 ∷ 109 ∷ 108 ∷ 117 ∷ 118 ∷ 45 ∷ 50 ∷ 57 ∷ 102 ∷ 51 ∷ 110 ∷ 45 ∷ 101 ∷ 115 ∷ 107 ∷ 121 ∷ [])
    ∷ (50 ∷ 55 ∷ 118 ∷ 107 ∷ 121 ∷ 112 ∷ 55 ∷ 98 ∷ 103 ∷ 119 ∷ 109 ∷ 98 ∷ 112 ∷ 102 ∷ 106 ∷ 103 ∷ 99 ∷ 52 ∷ 121 ∷ 110 ∷ 120 ∷ 53 ∷ 110 ∷ 100 ∷ 56 ∷ 120 ∷ 115 ∷ 112 ∷ 53 ∷ 110 ∷ 100 ∷ 57 ∷ 99 ∷ [])
    ∷ (50 ∷ 98 ∷ 55 ∷ 120 ∷ 116 ∷ 101 ∷ 110 ∷ 113 ∷ 100 ∷ 114 ∷ 55 ∷ 122 ∷ 99 ∷ 54 ∷ 117 ∷ 109 ∷ 97 ∷ 50 ∷ 112 ∷ 109 ∷ 99 ∷ 122 ∷ 55 ∷ 105 ∷ 98 ∷ 97 ∷ 103 ∷ 101 ∷ 50 ∷ 51 ∷ 55 ∷ 107 ∷ 100 ∷ 101 ∷ 109 ∷ 105 ∷ 99 ∷ 110 ∷ 107 ∷ 57 ∷ 103 ∷ 101 ∷ 105 ∷ 51 ∷ 50 ∷ [])
    ∷ (50 ∷ 54 ∷ 57 ∷ 120 ∷ 121 ∷ 106 ∷ 118 ∷ 99 ∷ 121 ∷ 97 ∷ 102 ∷ 113 ∷ 102 ∷ 100 ∷ 119 ∷ 121 ∷ 114 ∷ 51 ∷ 120 ∷ 102 ∷ 100 ∷ 56 ∷ 122 ∷ 56 ∷ 98 ∷ 121 ∷ 105 ∷ 54 ∷ 122 ∷ 51 ∷ 57 ∷ 120 ∷ 121 ∷ 105 ∷ 54 ∷ 57 ∷ 50 ∷ 115 ∷ 55 ∷ 117 ∷ 103 ∷ 50 ∷ [])
    ∷ (50 ∷ 50 ∷ 120 ∷ 45 ∷ 80 ∷ 111 ∷ 114 ∷ 113 ∷ 117 ∷ 45 ∷ 57 ∷ 45 ∷ 110 ∷ 111 ∷ 112 ∷ 117 ∷ 101 ∷ 100 ∷ 101 ∷ 110 ∷ 115 ∷ 105 ∷ 109 ∷ 112 ∷ 108 ∷ 101 ∷ 109 ∷ 101 ∷ 110 ∷ 116 ∷ 101 ∷ 104 ∷ 97 ∷ 98 ∷ 108 ∷ 97 ∷ 114 ∷ 101 ∷ 110 ∷ 69 ∷ 115 ∷ 112 ∷ 97 ∷ 45 ∷ 106 ∷ 45 ∷ 111 ∷ 108 ∷ [])
    ∷ (107 ∷ 103 ∷ 99 ∷ 113 ∷ 117 ∷ 105 ∷ 52 ∷ 57 ∷ 103 ∷ 97 ∷ 116 ∷ 99 ∷ 50 ∷ 119 ∷ 121 ∷ 114 ∷ 110 ∷ 56 ∷ 121 ∷ 55 ∷ 99 ∷ 110 ∷ 100 ∷ 103 ∷ 116 ∷ 101 ∷ 57 ∷ [])
    ∷ (50 ∷ 50 ∷ 57 ∷ 45 ∷ 45 ∷ 116 ∷ 50 ∷ 98 ∷ 52 ∷ 45 ∷ 49 ∷ 45 ∷ 119 ∷ 45 ∷ 48 ∷ 48 ∷ 45 ∷ 105 ∷ 57 ∷ 105 ∷ 45 ∷ 45 ∷ [])
    ∷ []

-- with the signature -8Q9
unfoldable pub signed : List ℕ → List ℕ
signed body = body ++ 45 ∷ 56 ∷ 81 ∷ 57 ∷ []

-- the labels are those of the texts one by one, but for the case of coded characters
unfoldable pub are_labels : (texts labels : List (List ℕ)) → Bool
are_labels [] [] = true
are_labels [] (l ∷ labels) = false
are_labels (t ∷ texts) [] = false
are_labels (t ∷ texts) (l ∷ labels) = both (are_for brace (symbols_of t) l) (are_labels texts labels)

pub record Published : Type 0 where
  pub encoded : map label_of draft_texts ≡ draft_labels
  pub decoded : map text_of draft_labels ≡ draft_texts
  pub accepted : map (decode_outcome 63) draft_labels ≡ map (λ t. done (length t)) draft_texts
  pub later_encoded : are_labels later_texts (map signed later_bodies) ≡ true
  pub later_decoded : map text_of (map signed later_bodies) ≡ later_texts
  pub later_accepted : map (decode_outcome 63) (map signed later_bodies) ≡ map (λ t. done (length t)) later_texts
