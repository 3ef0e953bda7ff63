-- ASCII case: only A to Z (65 to 90) fold, to a to z (97 to 122).
use Rattle.std.specs.Prelude.{ℕ, ◌+◌, ◌-◌, ◌≤◌, ◌<◌, ◌≡◌, Bool, ◌⊎◌, List, length, get_or}
use Rattle.basis.specs.Tests.{pick, within}

-- one of A to Z
unfoldable pub is_capital : ℕ → Bool
is_capital b = within 65 90 b

-- the small form of a capital letter, any other byte itself
unfoldable pub small : ℕ → ℕ
small b = pick (is_capital b) (b + 32) b

-- the capital form of a small letter, any other byte itself
unfoldable pub capital : ℕ → ℕ
capital b = pick (within 97 122 b) (b - 32) b

-- a is a capital letter and b its small form
abbrev pub CapitalAndSmall : ℕ → ℕ → Type 0
CapitalAndSmall a b = (65 ≤ a) × (a ≤ 90) × (b ≡ a + 32)

-- the same byte, or the capital and the small form of one letter
abbrev pub SameLetter : ℕ → ℕ → Type 0
SameLetter a b = (a ≡ b) ⊎ (CapitalAndSmall a b ⊎ CapitalAndSmall b a)

-- two labels differ at most in the case of A to Z: equally long, and the same letter at each index
pub record SameButCase (l m : List ℕ) : Type 0 where
  pub equally_long : length l ≡ length m
  pub at_each : (i : ℕ) → i < length l → SameLetter (get_or l i 0) (get_or m i 0)
