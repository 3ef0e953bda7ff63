-- The definitions at examples: which rows are host labels, and what a prefix is compared with.
use mathlib.Core.Path.{◌≡◌, refl}
use mathlib.Core.Bool.{true, false}
use mathlib.Core.List.{[], ◌∷◌}
use Rattle.basis.specs.Tests.{both, within, every}
use Rattle.basis.specs.Rows.{tabulate}
use Rattle.ascii.specs.Case.{is_capital, small}
use Rattle.ascii.specs.Ldh.{is_ldh, is_all_ldh, has_edge_hyphen, is_host_label}
use Rattle.ascii.specs.Prefix.{has_prefix}

-- abc
host-abc : is_host_label (97 ∷ 98 ∷ 99 ∷ []) ≡ true
unfolding is_host_label is_all_ldh is_ldh has_edge_hyphen every both within
host-abc = refl

-- nothing, -ab, ab-, 64 times a, and U+00FC are none
no-host-empty : is_host_label [] ≡ false
unfolding is_host_label is_all_ldh has_edge_hyphen every both within
no-host-empty = refl

no-host-hyphen-first : is_host_label (45 ∷ 97 ∷ 98 ∷ []) ≡ false
unfolding is_host_label is_all_ldh is_ldh has_edge_hyphen every both within
no-host-hyphen-first = refl

no-host-hyphen-last : is_host_label (97 ∷ 98 ∷ 45 ∷ []) ≡ false
unfolding is_host_label is_all_ldh is_ldh has_edge_hyphen every both within
no-host-hyphen-last = refl

no-host-long : is_host_label (tabulate 64 (λ i. 97)) ≡ false
unfolding is_host_label is_all_ldh is_ldh has_edge_hyphen every both within tabulate
no-host-long = refl

no-host-other : is_host_label (97 ∷ 0xfc ∷ 98 ∷ []) ≡ false
unfolding is_host_label is_all_ldh is_ldh has_edge_hyphen every both within
no-host-other = refl

-- Lq-7 begins with lQ-, and lq does not
prefix-either-case : has_prefix (108 ∷ 81 ∷ 45 ∷ []) (76 ∷ 113 ∷ 45 ∷ 55 ∷ []) ≡ true
unfolding has_prefix small is_capital every both within
prefix-either-case = refl

no-prefix-short : has_prefix (108 ∷ 81 ∷ 45 ∷ []) (108 ∷ 113 ∷ []) ≡ false
unfolding has_prefix both
no-prefix-short = refl
