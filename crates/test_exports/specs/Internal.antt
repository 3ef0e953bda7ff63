-- What a private step of the exports answers; no public promise cites it.
use Rattle.std.specs.Prelude.{ℕ, ◌+◌, ◌-◌, ltb}
use Rattle.basis.specs.Tests.{pick}

-- where a chunk of this length that begins at the start ends, in so many bytes: at their end, if it
-- would pass that
unfoldable pub end_of : (start length total : ℕ) → ℕ
end_of start length total = pick (ltb length (total - start)) (start + length) total
