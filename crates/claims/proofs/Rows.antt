-- The rows of two long tables that read whole: they list exactly the reader numbers that the entries give, and add up to the entries.
use Prim.Native.Nat.{ℕ, zero, suc, ◌+◌, ◌≤◌, ◌<◌, min}
use mathlib.Core.Path.{◌≡◌, refl, sym, ap, ◌∙◌}
use mathlib.Core.Bool.{true, false}
use mathlib.Core.Logic.{◌↔◌, ◌⊎◌, inl, inr, ⊎_elim}
use mathlib.Core.List.{List, [], ◌∷◌, ◌++◌, append-nil}
use lib.Dec.{eqb}
use lib.ListN.{length, length-append, get_or-append}
use lib.Seq.{get_or-append-add, ext_get_or}
use borrow.Author.Tests.{ltb-true, eqb-true, eq-eqb}
use native.Mathlib.Omega.{arith}
use Rattle.basis.specs.Rows.{at, AllBelow}
use Rattle.basis.specs.Outcome.{done}
use Rattle.basis.proofs.Tests.{cases, by-lt, true-not-false, both_left, both_right, both_true, at_each, each_at, first-here}
use Rattle.scheme.specs.Naming as naming
use Rattle.scheme.proofs.Naming.{same_number}
use Rattle.nametable_format.specs.Format.{count_of, entry_at, reader_of, scheme_in}
use Rattle.nametable.specs.Answer.{read_outcome, text_in}
use Rattle.nametable_differences.specs.declared.Difference.{Difference}
use Rattle.nametable_differences.specs.declared.Difference.TheVariants.{Same, OtherText, Respelled, OnlyLeft, OnlyRight}
use Rattle.nametable_differences.specs.Differences.{index_of, has_reader, same_text, same_scheme, compared, Row, row, row_at, rows_below, reader_numbers, rows_of}
use Rattle.nametable_differences.specs.Report.{rank_of, same_difference, one_if, how_many}
use Rattle.nametable_differences.specs.Internal.{next_reader, next_difference, left_taken, right_taken}
use Rattle.nametable_differences.proofs.ReaderLaws.{readers-rise, reader-absent, reader-present, next-inside, next_past, Split}
use Rattle.nametable_differences.proofs.TurnLaws.{taken-some}
use Rattle.nametable_differences.proofs.RowLaws.{row-none, row-left, row-right, row-both, Merged, merged-start, merged-more, none_before}
use Rattle.claims.specs.Differences.{HasAt, Has, Described, Rising, readers_of, with_difference, ListsAll}

-- rows one after the other: their reader numbers, and those of them with a difference
readers-append : (rs qs : List Row) → readers_of (rs ++ qs) ≡ readers_of rs ++ readers_of qs
unfolding readers_of
readers-append [] qs = refl
readers-append (row x e ∷ rs) qs = ap (λ (l : List ℕ). x ∷ l) (readers-append rs qs)

with_append : (d : Difference) (rs qs : List Row) → with_difference d (rs ++ qs) ≡ with_difference d rs ++ with_difference d qs
unfolding with_difference
with_append d [] qs = refl
with_append d (row x e ∷ rs) qs = cases (same_difference d e) (λ s. rw s (ap (λ (l : List Row). row x e ∷ l) (with_append d rs qs))) (λ s. rw s (with_append d rs qs))

-- how many rows have a difference
pub with-count : (d : Difference) (rs : List Row) → how_many d rs ≡ length (readers_of (with_difference d rs))
unfolding how_many one_if readers_of with_difference
with-count d [] = refl
with-count d (row x e ∷ rs) = let i = with-count d rs in cases (same_difference d e) (λ s. rw s (omega arith)) (λ s. rw s (omega arith))

-- a difference has its rank alone
unfoldable of_rank : ℕ → Difference
of_rank zero = Same
of_rank (suc zero) = OtherText
of_rank (suc (suc zero)) = Respelled
of_rank (suc (suc (suc zero))) = OnlyLeft
of_rank (suc (suc (suc (suc n)))) = OnlyRight

rank-back : (d : Difference) → of_rank (rank_of d) ≡ d
unfolding of_rank rank_of
rank-back Same = refl
rank-back OtherText = refl
rank-back Respelled = refl
rank-back OnlyLeft = refl
rank-back OnlyRight = refl

same-is : (d e : Difference) → same_difference d e ≡ true → d ≡ e
unfolding same_difference
same-is d e s = sym (rank-back d) ∙ ap of_rank (eqb-true _ _ s) ∙ rank-back e

same_self : (d : Difference) → same_difference d d ≡ true
unfolding same_difference
same_self d = eq-eqb (rank_of d) (rank_of d) refl

-- what holds of each element, and of one more
each_more : (P : ℕ → Type 0) (xs : List ℕ) (n : ℕ) → ((i : ℕ) → i < length xs → P (at xs i)) → P n → (i : ℕ) → i < length (xs ++ (n ∷ [])) → P (at (xs ++ (n ∷ [])) i)
each_more P xs n each last i h =
    by-lt i (length xs) (λ l. rw (get_or-append xs (n ∷ []) 0 i l) (each i l))
    (λ l. let e : i ≡ length xs + 0 = omega (arith, length-append xs (n ∷ [])) in rw (e, get_or-append-add xs (n ∷ []) 0 0) last)

-- rising numbers below n: those that give themselves, and all of them
record Lists (f : ℕ → List ℕ) (n : ℕ) (numbers : List ℕ) : Type 0 where
  rising : Rising numbers
  below : AllBelow n numbers
  each : (i : ℕ) → i < length numbers → f (at numbers i) ≡ at numbers i ∷ []
  all : (x : ℕ) → x < n → f x ≡ x ∷ [] → (i : ℕ) × (i < length numbers) × (at numbers i ≡ x)

module _ (f : ℕ → List ℕ) where
  lists-none : Lists f 0 []
  lists-none = record {
    rising = λ i h. absurd (omega arith);
    below = λ i h. absurd (omega arith);
    each = λ i h. absurd (omega arith);
    all = λ x h e. absurd (omega arith);
  }

  module _ (n : ℕ) (xs : List ℕ) (l : Lists f n xs) where
    -- the next number gives none
    lists-same : f n ≡ [] → Lists f (suc n) xs
    lists-same none = record {
      rising = l.rising;
      below = λ i h. omega (arith, l.below i h);
      each = l.each;
      all = λ x h e.
          by-lt x n (λ g. l.all x g e)
          (λ g. let q : n ≡ x = omega arith in let z = ap length (sym (rw q at none) ∙ e) in absurd (omega arith));
    }

    -- or itself
    lists-more : f n ≡ n ∷ [] → Lists f (suc n) (xs ++ (n ∷ []))
    lists-more one =
        let size : length (xs ++ (n ∷ [])) ≡ length xs + 1 = length-append xs (n ∷ []) in
        let last : at (xs ++ (n ∷ [])) (length xs + 0) ≡ n = get_or-append-add xs (n ∷ []) 0 0 in
        record {
          rising = λ i h.
              rw (get_or-append xs (n ∷ []) 0 i (omega arith))
              (by-lt (suc i) (length xs) (λ g. rw (get_or-append xs (n ∷ []) 0 (suc i) g) (l.rising i g))
              (λ g. let e : suc i ≡ length xs + 0 = omega arith in rw (e, last) (l.below i (omega arith))));
          below = each_more (λ x. x < suc n) xs n (λ i h. omega (arith, l.below i h)) (omega arith);
          each = each_more (λ x. f x ≡ x ∷ []) xs n l.each one;
          all = λ x h e.
              by-lt x n (λ g. let a = l.all x g e in (a.0, omega (arith, a.1), get_or-append xs (n ∷ []) 0 a.0 a.1 ∙ a.2))
              (λ g. (length xs + 0, omega arith, last ∙ omega arith));
        }

-- the rows of two tables, of which some list of reader numbers is made row by row
module _ (left right : List ℕ) (made : List Row → List ℕ) (none : made [] ≡ []) (more : (rs qs : List Row) → made (rs ++ qs) ≡ made rs ++ made qs)
    (one : (x : ℕ) → (made (row_at left right x) ≡ []) ⊎ (made (row_at left right x) ≡ x ∷ [])) where
  rows-listed : (n : ℕ) → Lists (λ x. made (row_at left right x)) n (made (rows_below left right n))
  unfolding rows_below
  rows-listed zero = rw none (lists-none _)
  rows-listed (suc n) =
      let before = rows-listed n in
      let numbers = made (rows_below left right n) in
      rw (more (rows_below left right n) (row_at left right n))
      (⊎_elim
      (λ e. let q : numbers ++ made (row_at left right n) ≡ numbers = ap (λ (l : List ℕ). numbers ++ l) e ∙ append-nil numbers in rw q (lists-same _ n _ before e))
      (λ e. rw e (lists-more _ n _ before e)) (one n))

-- what holds of no row, and of one row of a reader number, holds of what it has
by_row : (left right : List ℕ) (x : ℕ) (P : List Row → Type 0) → P [] → ((e : Difference) → P (row x e ∷ [])) → P (row_at left right x)
by_row left right x P none one =
    cases (has_reader left x)
    (λ l. cases (has_reader right x) (λ r. rw (row-both left right x l r) (one _)) (λ r. rw (row-left left right x l r) (one OnlyLeft)))
    (λ l. cases (has_reader right x) (λ r. rw (row-right left right x l r) (one OnlyRight)) (λ r. rw (row-none left right x l r) none))

-- the reader numbers of the rows below n rise
readers-listed : (left right : List ℕ) (n : ℕ) → Lists (λ x. readers_of (row_at left right x)) n (readers_of (rows_below left right n))
unfolding readers_of
readers-listed left right =
    rows-listed left right readers_of refl readers-append (λ x. by_row left right x (λ rs. (readers_of rs ≡ []) ⊎ (readers_of rs ≡ x ∷ [])) (inl refl) (λ e. inr refl))

pub rows-rise : (left right : List ℕ) → Rising (readers_of (rows_of left right))
unfolding rows_of
rows-rise left right = (readers-listed left right reader_numbers).rising

-- the reader numbers of the rows with a difference
abbrev numbers_with : Difference → List Row → List ℕ
numbers_with d rs = readers_of (with_difference d rs)

with-one : (d e : Difference) (x : ℕ) → (numbers_with d (row x e ∷ []) ≡ []) ⊎ (numbers_with d (row x e ∷ []) ≡ x ∷ [])
unfolding readers_of with_difference
with-one d e x = cases (same_difference d e) (λ s. inr (rw s)) (λ s. inl (rw s))

with-listed : (left right : List ℕ) (d : Difference) (n : ℕ) → Lists (λ x. numbers_with d (row_at left right x)) n (numbers_with d (rows_below left right n))
unfolding readers_of with_difference
with-listed left right d =
    rows-listed left right (numbers_with d) refl (λ rs qs. ap readers_of (with_append d rs qs) ∙ readers-append (with_difference d rs) (with_difference d qs))
    (λ x. by_row left right x (λ rs. (numbers_with d rs ≡ []) ⊎ (numbers_with d rs ≡ x ∷ [])) (inl refl) (λ e. with-one d e x))

-- a reader number is among them exactly if its row has the difference
module _ (left right : List ℕ) (d : Difference) (x : ℕ) where
  row-with : row_at left right x ≡ row x d ∷ [] → numbers_with d (row_at left right x) ≡ x ∷ []
  unfolding readers_of with_difference
  row-with e = rw (e, same_self d)

  with_row : numbers_with d (row_at left right x) ≡ x ∷ [] → row_at left right x ≡ row x d ∷ []
  unfolding readers_of with_difference
  with_row =
      by_row left right x (λ rs. numbers_with d rs ≡ x ∷ [] → rs ≡ row x d ∷ []) (λ h. absurd (nothing h))
      (λ e h. cases (same_difference d e) (λ s. rw (same-is d e s)) (λ s. absurd (nothing (rw s at h))))
    where
      nothing : [] ≡ x ∷ [] → ⊥
      nothing e = let z = ap length e in omega arith

-- the tests of the comparison and what they test
same-text-iff : (xs ys : List ℕ) → (same_text xs ys ≡ true) ↔ (xs ≡ ys)
unfolding same_text
same-text-iff xs ys = (
  λ e. ext_get_or 0 xs ys (eqb-true _ _ (both_left _ _ e)) (λ i h. eqb-true _ _ (at_each (length xs) (λ i. eqb (at xs i) (at ys i)) (both_right _ _ e) i h)),
  λ e. rw (← e) (both_true (eq-eqb (length xs) (length xs) refl) (each_at (length xs) (λ i. eqb (at xs i) (at xs i)) (λ i h. eq-eqb (at xs i) (at xs i) refl))),
)

same-scheme-iff : (e f : List ℕ) → (same_scheme e f ≡ true) ↔ (scheme_in e ≡ scheme_in f)
unfolding same_scheme
same-scheme-iff e f = (λ s. same_number _ _ (eqb-true _ _ s), λ s. eq-eqb _ _ (ap naming.number_of s))

-- where they fail, the texts or the schemes differ
other_text : (xs ys : List ℕ) → same_text xs ys ≡ false → xs ≡ ys → ⊥
other_text xs ys f is = true-not-false ((same-text-iff xs ys).1 is) f

other-scheme : (e f : List ℕ) → same_scheme e f ≡ false → scheme_in e ≡ scheme_in f → ⊥
other-scheme e f s is = true-not-false ((same-scheme-iff e f).1 is) s

-- two entries that are compared
module _ (e f : List ℕ) where
  compared_same : text_in e ≡ text_in f → scheme_in e ≡ scheme_in f → compared e f ≡ Same
  unfolding compared
  compared_same t s = rw ((same-text-iff _ _).1 t, (same-scheme-iff e f).1 s)

  compared-respelled : text_in e ≡ text_in f → (scheme_in e ≡ scheme_in f → ⊥) → compared e f ≡ Respelled
  unfolding compared
  compared-respelled t differ = rw ((same-text-iff _ _).1 t) (cases (same_scheme e f) (λ s. absurd (differ ((same-scheme-iff e f).0 s))) (λ s. rw s))

  compared-other : (text_in e ≡ text_in f → ⊥) → compared e f ≡ OtherText
  unfolding compared
  compared-other differ = cases (same_text (text_in e) (text_in f)) (λ t. absurd (differ ((same-text-iff _ _).0 t))) (λ t. rw t)

-- an entry that has a reader number is found by it
has-at : (t : List ℕ) (x : ℕ) → has_reader t x ≡ true → HasAt t (index_of t x) x
unfolding has_reader index_of
has-at t x h =
    let inside = ltb-true (index_of t x) (count_of t) h in
    (inside, eqb-true _ _ (first-here (count_of t) (λ i. eqb (reader_of (entry_at t i)) x) inside))

at-index : (t : List ℕ) (n : ℕ) → read_outcome t ≡ done n → (i x : ℕ) → HasAt t i x → (has_reader t x ≡ true) × (index_of t x ≡ i)
at-index t n read i x h = reader-present t x i h.0 h.1 (λ k g e. omega (arith, readers-rise t n read k i g h.0, h.1))

-- and one that no search finds no entry has
has-none : (t : List ℕ) (n : ℕ) → read_outcome t ≡ done n → (x : ℕ) → has_reader t x ≡ false → Has t x → ⊥
has-none t n read x h p = true-not-false (at-index t n read p.0 x p.1).0 h

-- the reader numbers of a table are of two bytes
abbrev pub Small : List ℕ → Type 0
Small t = (k : ℕ) → k < count_of t → reader_of (entry_at t k) < reader_numbers

has-small : (t : List ℕ) → Small t → (i x : ℕ) → HasAt t i x → x < reader_numbers
has-small t small i x h = omega (arith, small i h.0, h.1)

-- what the row of a reader number says of two tables
module _ (left right : List ℕ) where
  compared-described : (i j x : ℕ) → HasAt left i x → HasAt right j x → Described (compared (entry_at left i) (entry_at right j)) left right x
  unfolding compared
  compared-described i j x l r =
      let e = entry_at left i in
      let f = entry_at right j in
      cases (same_text (text_in e) (text_in f))
      (λ t. cases (same_scheme e f)
      (λ s. rw (t, s) (i, j, l, r, ((same-text-iff _ _).0 t, (same-scheme-iff e f).0 s)))
      (λ s. rw (t, s) (i, j, l, r, ((same-text-iff _ _).0 t, other-scheme e f s))))
      (λ t. rw t (i, j, l, r, other_text _ _ t))

  module _ {a b : ℕ} (read_left : read_outcome left ≡ done a) (read_right : read_outcome right ≡ done b) where
    row-says : (d : Difference) (x : ℕ) → row_at left right x ≡ row x d ∷ [] → Described d left right x
    row-says d x is =
        cases (has_reader left x)
        (λ l. cases (has_reader right x)
        (λ r. rw (same_row (sym is ∙ row-both left right x l r)) (compared-described _ _ x (has-at left x l) (has-at right x r)))
        (λ r. rw (same_row (sym is ∙ row-left left right x l r)) ((index_of left x, has-at left x l), has-none right b read_right x r)))
        (λ l. cases (has_reader right x)
        (λ r. rw (same_row (sym is ∙ row-right left right x l r)) ((index_of right x, has-at right x r), has-none left a read_left x l))
        (λ r. absurd (no_row (sym is ∙ row-none left right x l r))))
      where
        same_row : {d e : Difference} → row x d ∷ [] ≡ row x e ∷ [] → d ≡ e
        same_row e = cc

        no_row : row x d ∷ [] ≡ [] → ⊥
        no_row e = let z = ap length e in omega arith

    -- and conversely
    row-of-both : (i j x : ℕ) → HasAt left i x → HasAt right j x → row_at left right x ≡ row x (compared (entry_at left i) (entry_at right j)) ∷ []
    row-of-both i j x l r =
        let at_left = at-index left a read_left i x l in
        let at_right = at-index right b read_right j x r in
        row-both left right x at_left.0 at_right.0 ∙ rw (at_left.1, at_right.1)

    says_row : (d : Difference) (x : ℕ) → Described d left right x → row_at left right x ≡ row x d ∷ []
    says_row Same x p = row-of-both p.0 p.1 x p.2 p.3 ∙ rw (compared_same _ _ p.4.0 p.4.1)
    says_row OtherText x p = row-of-both p.0 p.1 x p.2 p.3 ∙ rw (compared-other _ _ p.4)
    says_row Respelled x p = row-of-both p.0 p.1 x p.2 p.3 ∙ rw (compared-respelled _ _ p.4.0 p.4.1)
    says_row OnlyLeft x p = row-left left right x (at-index left a read_left p.0.0 x p.0.1).0 (reader-absent right x (λ k h e. p.1 (k, (h, e))))
    says_row OnlyRight x p = row-right left right x (reader-absent left x (λ k h e. p.1 (k, (h, e)))) (at-index right b read_right p.0.0 x p.0.1).0

    -- the rows with a difference list all that it describes
    module _ (small_left : Small left) (small_right : Small right) where
      described-small : (d : Difference) (x : ℕ) → Described d left right x → x < reader_numbers
      described-small Same x p = has-small left small_left p.0 x p.2
      described-small OtherText x p = has-small left small_left p.0 x p.2
      described-small Respelled x p = has-small left small_left p.0 x p.2
      described-small OnlyLeft x p = has-small left small_left p.0.0 x p.0.1
      described-small OnlyRight x p = has-small right small_right p.0.0 x p.0.1

      pub rows-described : (d : Difference) → ListsAll (Described d left right) (readers_of (with_difference d (rows_of left right)))
      unfolding rows_of
      rows-described d =
          let l = with-listed left right d reader_numbers in
          record {
            rising = l.rising;
            each = λ i h. row-says d _ (with_row left right d _ (l.each i h));
            all = λ x p. l.all x (described-small d x p) (row-with left right d x (says_row d x p));
          }

-- two tables that are gone through, up to entries whose reader numbers are of more than two bytes
pub record Through (left right : List ℕ) : Type 0 where
  pub i : ℕ
  pub j : ℕ
  pub m : ℕ
  pub merged : Merged left right i j m (rows_of left right)
  pub left_done : reader_numbers ≤ next_reader left i
  pub right_done : reader_numbers ≤ next_reader right j

module _ (left right : List ℕ) {a b : ℕ} (read_left : read_outcome left ≡ done a) (read_right : read_outcome right ≡ done b) where
  -- nothing left
  through-end : (i j m : ℕ) (rs : List Row) → Merged left right i j m rs → reader_numbers ≤ next_reader left i → reader_numbers ≤ next_reader right j → Through left right
  unfolding rows_of
  through-end i j m rs g l r =
      let all : rows_of left right ≡ rs = none_before left right read_left read_right i j m rs g reader_numbers g.bound l r in
      record { i = i; j = j; m = m; merged = rw all g; left_done = l; right_done = r }

  -- so many entries left at most
  through-from : (todo i j m : ℕ) (rs : List Row) → Merged left right i j m rs → count_of left + count_of right ≤ i + j + todo → Through left right
  through-from zero i j m rs g h =
      through-end i j m rs g (omega (arith, next_past left i (omega (arith, g.right_split.inside)))) (omega (arith, next_past right j (omega (arith, g.left_split.inside))))
  through-from (suc todo) i j m rs g h =
      let reader = min (next_reader left i) (next_reader right j) in
      let d = next_difference left i right j in
      by-lt reader reader_numbers
      (λ small.
      through-from todo (i + left_taken d) (j + right_taken d) (suc reader) (rs ++ (row reader d ∷ [])) (merged-more left right read_left read_right i j m rs g reader refl small d refl)
      (omega (arith, taken-some d)))
      (λ large. through-end i j m rs g (omega arith) (omega arith))

  pub gone-through : Through left right
  gone-through = through-from (count_of left + count_of right) 0 0 0 [] (merged-start left right) (omega arith)

-- of reader numbers of two bytes all are gone through
pub all-taken : (t : List ℕ) (i m : ℕ) → Small t → Split t i m → reader_numbers ≤ next_reader t i → i ≡ count_of t
all-taken t i m small s past =
    by-lt i (count_of t) (λ h. absurd (omega (arith, next-inside t i h, small i h))) (λ h. omega (arith, s.inside))
