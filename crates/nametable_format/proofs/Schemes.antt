-- The scheme that is named, as `unwrap_or` with LACE gives it.
use mathlib.Core.Path.{◌≡◌, refl}
use Rattle.std.proofs.Common.{Option, Some, None}
use Rattle.std.specs.Option.{unwrap_or}
use Rattle.scheme.specs.Naming.{scheme_named}
use Rattle.scheme.specs.declared.Scheme.{Scheme}
use Rattle.scheme.specs.declared.Scheme.TheVariants.{Lace}

pub named-or-lace : (named : Option Scheme) → unwrap_or named Lace ≡ scheme_named named
unfolding scheme_named
named-or-lace None = refl
named-or-lace (Some scheme) = refl
