-- What is printed for the bytes held once reading is over.
use Prim.Native.Nat.{ℕ, ◌≤◌, ◌<◌}
use mathlib.Core.Path.{◌≡◌, refl, sym}
use mathlib.Core.List.{List, [], ◌∷◌, append-nil}
use lib.ListN.{length}
use native.Mathlib.Omega.{arith}
use Rattle.lines.specs.Step.{in_front}
use Rattle.lines.specs.Run.{last_line}
use Rattle.bench_list.specs.Listing.{bench_line, bench_lines}

one_line : (last : List ℕ) → 0 < length last → bench_lines (last_line last) ≡ bench_line last
unfolding bench_lines last_line
one_line [] h = absurd (omega arith)
one_line (b ∷ last) h = append-nil (bench_line (b ∷ last))

no_line : (last : List ℕ) → length last ≤ 0 → bench_lines (last_line last) ≡ []
unfolding bench_lines last_line
no_line [] h = refl
no_line (b ∷ last) h = absurd (omega arith)

-- the bytes that are believed, and what was written for them
module _ (last held : List ℕ) (is : last ≡ held) (old now : List ℕ) (n : ℕ) where
  -- so many bytes, and they are in front
  abbrev Wrote : List ℕ → Type 0
  Wrote bytes = (n ≡ length bytes) × (now ≡ in_front bytes old)

  pub wrote-line : 0 < length last → Wrote (bench_line last) → Wrote (bench_lines (last_line held))
  wrote-line h w = rw (sym is, one_line last h) w

  pub wrote_none : length last ≤ 0 → Wrote [] → Wrote (bench_lines (last_line held))
  wrote_none h w = rw (sym is, no_line last h) w
