-- Points and texts, as `surrogates` has them.
unfoldable pub use Rattle.surrogates.specs.Points.{is_point, is_text, first_not_point}
