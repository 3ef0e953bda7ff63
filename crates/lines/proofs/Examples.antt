-- The edges of splitting: no byte, line feeds alone, a last line with and without a line feed, and CR.
use mathlib.Core.Path.{◌≡◌, refl}
use mathlib.Core.List.{[], ◌∷◌}
use Rattle.lines.specs.Lines.{is_line_feed, to_first, with_byte, lines_of}

no_byte : lines_of [] ≡ []
unfolding lines_of
no_byte = refl

line-feeds : lines_of (10 ∷ 10 ∷ []) ≡ [] ∷ [] ∷ []
unfolding lines_of with_byte is_line_feed
line-feeds = refl

with-line-feed : lines_of (97 ∷ 10 ∷ 98 ∷ 13 ∷ 10 ∷ []) ≡ (97 ∷ []) ∷ (98 ∷ 13 ∷ []) ∷ []
unfolding lines_of with_byte is_line_feed to_first
with-line-feed = refl

without-line-feed : lines_of (97 ∷ 10 ∷ 98 ∷ []) ≡ (97 ∷ []) ∷ (98 ∷ []) ∷ []
unfolding lines_of with_byte is_line_feed to_first
without-line-feed = refl
