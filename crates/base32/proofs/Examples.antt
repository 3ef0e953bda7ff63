-- The definitions at worked examples: Base32 of the labels of the scope paper, and the rules of its form.
use mathlib.Core.Path.{◌≡◌, refl}
use mathlib.Core.Bool.{true, false}
use mathlib.Core.List.{[], ◌∷◌}
use Rattle.basis.specs.Tests.{both, within, every, first_below}
use Rattle.basis.specs.Rows.{tabulate}
use Rattle.ascii.specs.Case.{is_capital, small}
use Rattle.alphabet.specs.Alphabet.{lace, character_of, value_of, values_of}
use Rattle.base32.specs.Bits.{bit_of, from_bits, row_bit, group, regroup}
use Rattle.base32.specs.Form.{length_lawful, spare_zero, is_lawful}
use Rattle.base32.specs.Base32.{to_quintets, to_octets, characters_of}

-- octets FF 00 FC: 74apy
written-74apy : characters_of lace (0xff ∷ 0x00 ∷ 0xfc ∷ []) ≡ 55 ∷ 52 ∷ 97 ∷ 112 ∷ 121 ∷ []
unfolding characters_of to_quintets tabulate regroup group from_bits row_bit bit_of character_of lace
written-74apy = refl

-- octets 02 00 FC FC: aiapz7a
written-aiapz7a : characters_of lace (0x02 ∷ 0x00 ∷ 0xfc ∷ 0xfc ∷ []) ≡ 97 ∷ 105 ∷ 97 ∷ 112 ∷ 122 ∷ 55 ∷ 97 ∷ []
unfolding characters_of to_quintets tabulate regroup group from_bits row_bit bit_of character_of lace
written-aiapz7a = refl

-- 74Apy, with a capital, reads back
read-74apy : to_octets (values_of lace (55 ∷ 52 ∷ 65 ∷ 112 ∷ 121 ∷ [])) ≡ 0xff ∷ 0x00 ∷ 0xfc ∷ []
unfolding to_octets values_of value_of first_below small is_capital within both tabulate regroup group from_bits row_bit bit_of lace
read-74apy = refl

-- 74apz has a spare bit that is not zero
unlawful-74apz : is_lawful (values_of lace (55 ∷ 52 ∷ 97 ∷ 112 ∷ 122 ∷ [])) ≡ false
unfolding is_lawful length_lawful spare_zero every values_of value_of first_below small is_capital within both tabulate regroup group from_bits row_bit bit_of lace
unlawful-74apz = refl

lawful-74apy : is_lawful (values_of lace (55 ∷ 52 ∷ 97 ∷ 112 ∷ 121 ∷ [])) ≡ true
unfolding is_lawful length_lawful spare_zero every values_of value_of first_below small is_capital within both tabulate regroup group from_bits row_bit bit_of lace
lawful-74apy = refl
