-- Laws on lists: elements, tabulated lists, mapped lists, and buffers that are filled from the front.
use Prim.Native.Nat.{ℕ, zero, suc, ◌+◌, ◌≤◌, ◌<◌}
use mathlib.Core.Path.{◌≡◌, refl, sym, ap, ap₂, ◌∙◌}
use mathlib.Core.List.{List, [], ◌∷◌, ◌++◌, map, append_assoc}
use lib.ListN.{length, get_or, drop, set, length-append, get_or-eq_default, get_or-append}
use lib.Seq.{get_or-append-add, drop-cons, set_at, sets, sets-eq}
use native.Mathlib.Nat.{le_of_suc-le-suc, zero-add}
use native.Mathlib.Numerals.{add-one}
use native.Mathlib.Omega.{arith}
use Rattle.basis.specs.Rows.{at, tabulate, AllBelow}
use Rattle.basis.proofs.Tests.{by-lt, from_first}

pub at-past : (xs : List ℕ) (i : ℕ) → length xs ≤ i → at xs i ≡ 0
at-past xs i h = get_or-eq_default xs 0 h

pub length-tabulate : (n : ℕ) (f : ℕ → ℕ) → length (tabulate n f) ≡ n
unfolding tabulate
length-tabulate zero f = refl
length-tabulate (suc n) f = ap suc (length-tabulate n (λ i. f (suc i)))

pub at-tabulate : (n : ℕ) (f : ℕ → ℕ) (i : ℕ) → i < n → at (tabulate n f) i ≡ f i
unfolding tabulate
at-tabulate zero f i h = absurd (omega arith)
at-tabulate (suc n) f zero h = refl
at-tabulate (suc n) f (suc i) h = at-tabulate n (λ k. f (suc k)) i (le_of_suc-le-suc h)

-- a list is the tabulated list of its row
pub tabulate-at : (xs : List ℕ) → tabulate (length xs) (at xs) ≡ xs
unfolding tabulate
tabulate-at [] = refl
tabulate-at (x ∷ xs) = ap (λ (l : List ℕ). x ∷ l) (tabulate-at xs)

-- a row that is 0 from n on is the row of its tabulated list
pub row-tabulate : (n : ℕ) (f : ℕ → ℕ) → ((i : ℕ) → n ≤ i → f i ≡ 0) → (i : ℕ) → at (tabulate n f) i ≡ f i
row-tabulate n f none i =
    by-lt i n (at-tabulate n f i) (λ h. at-past (tabulate n f) i (rw (length-tabulate n f) h) ∙ sym (none i h))

pub tabulate-below : (m n : ℕ) (f : ℕ → ℕ) → ((i : ℕ) → f i < m) → AllBelow m (tabulate n f)
tabulate-below m n f h i g = rw (at-tabulate n f i (rw (length-tabulate n f) at g)) (h i)

-- past the end too the row is below the bound
pub row_below : (m : ℕ) (xs : List ℕ) → 0 < m → AllBelow m xs → (i : ℕ) → at xs i < m
row_below m xs p h i = by-lt i (length xs) (h i) (λ g. rw (at-past xs i g) p)

-- a bound on every element, of longer and shorter lists
pub below_none : (n : ℕ) → AllBelow n []
below_none n i h = absurd (omega arith)

pub below_more : (n x : ℕ) (xs : List ℕ) → x < n → AllBelow n xs → AllBelow n (x ∷ xs)
below_more n x xs = from_first (λ i. at (x ∷ xs) i < n) (length xs)

pub below-tail : (n x : ℕ) (xs : List ℕ) → AllBelow n (x ∷ xs) → AllBelow n xs
below-tail n x xs b i h = b (suc i) (omega arith)

pub below_left : (n : ℕ) (xs ys : List ℕ) → AllBelow n (xs ++ ys) → AllBelow n xs
below_left n xs ys b i h = rw (get_or-append xs ys 0 i h) at (b i (omega (arith, length-append xs ys)))

pub below_right : (n : ℕ) (xs ys : List ℕ) → AllBelow n (xs ++ ys) → AllBelow n ys
below_right n xs ys b i h = rw (get_or-append-add xs ys i 0) at (b (length xs + i) (omega (arith, length-append xs ys)))

tabulate-snoc : (n : ℕ) (f : ℕ → ℕ) → tabulate (suc n) f ≡ tabulate n f ++ (f n ∷ [])
unfolding tabulate
tabulate-snoc zero f = refl
tabulate-snoc (suc n) f = ap (λ (l : List ℕ). f zero ∷ l) (tabulate-snoc n (λ i. f (suc i)))

pub map-tabulate : (g : ℕ → ℕ) (n : ℕ) (f : ℕ → ℕ) → map g (tabulate n f) ≡ tabulate n (λ i. g (f i))
unfolding tabulate
map-tabulate g zero f = refl
map-tabulate g (suc n) f = ap (λ (l : List ℕ). g (f zero) ∷ l) (map-tabulate g n (λ i. f (suc i)))

-- two functions that agree on the elements give the same list
pub map_same : (f g : ℕ → ℕ) (xs : List ℕ) → ((i : ℕ) → i < length xs → f (at xs i) ≡ g (at xs i)) → map f xs ≡ map g xs
map_same f g [] h = refl
map_same f g (x ∷ xs) h = ap₂ ◌∷◌ (h 0 (omega arith)) (map_same f g xs (λ i k. h (suc i) (omega arith)))

-- a function after another that is a third on the elements
pub map-after : (f g h : ℕ → ℕ) (xs : List ℕ) → ((i : ℕ) → i < length xs → f (g (at xs i)) ≡ h (at xs i)) → map f (map g xs) ≡ map h xs
map-after f g h xs e = one xs ∙ map_same (λ x. f (g x)) h xs e
  where
    one : (xs : List ℕ) → map f (map g xs) ≡ map (λ x. f (g x)) xs
    one [] = refl
    one (x ∷ xs) = ap (λ (l : List ℕ). f (g x) ∷ l) (one xs)

pub map-self : (xs : List ℕ) → map (λ x. x) xs ≡ xs
map-self [] = refl
map-self (x ∷ xs) = ap (λ (l : List ℕ). x ∷ l) (map-self xs)

pub at_map : (f : ℕ → ℕ) (xs : List ℕ) (i : ℕ) → i < length xs → at (map f xs) i ≡ f (at xs i)
at_map f [] i h = absurd (omega arith)
at_map f (x ∷ xs) zero h = refl
at_map f (x ∷ xs) (suc i) h = at_map f xs i (le_of_suc-le-suc h)

-- a buffer that holds f 0, f 1, .. from the front: one store more
pub fill_more : (now old : List ℕ) (f : ℕ → ℕ) (i v : ℕ) → i < length old → v ≡ f i → now ≡ tabulate i f ++ drop i old → set now i v ≡ tabulate (i + 1) f ++ drop (i + 1) old
unfolding tabulate
fill_more now old f i v h e q =
    rw add-one
    (ap (λ (l : List ℕ). set l i v) (q ∙ ap (λ (l : List ℕ). tabulate i f ++ l) (drop-cons old i 0 h))
    ∙ set_at (tabulate i f) (get_or old i 0) (drop (suc i) old) v i (length-tabulate i f)
    ∙ ap (λ (x : ℕ). tabulate i f ++ x ∷ drop (suc i) old) e
    ∙ sym (ap (λ (l : List ℕ). l ++ drop (suc i) old) (tabulate-snoc i f) ∙ append_assoc (tabulate i f) (f i ∷ []) (drop (suc i) old)))

-- and all of them
pub fill_done : (now old whole : List ℕ) (f : ℕ → ℕ) (i n : ℕ) → i ≡ n → whole ≡ tabulate n f → now ≡ tabulate i f ++ drop i old → now ≡ whole ++ drop n old
fill_done now old whole f i n e w q = q ∙ ap (λ (k : ℕ). tabulate k f ++ drop k old) e ∙ ap (λ (l : List ℕ). l ++ drop n old) (sym w)

-- values stored one by one from the front are followed by what was there
pub sets-front : (values buffer : List ℕ) → length values ≤ length buffer → sets buffer 0 values ≡ values ++ drop (length values) buffer
sets-front values buffer h =
    let g : 0 + length values ≤ length buffer = omega arith in
    sets-eq values buffer 0 g ∙ ap (λ (n : ℕ). values ++ drop n buffer) (zero-add (length values))
