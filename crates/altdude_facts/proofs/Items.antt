-- The test of a row of symbols decides the rule of form: a row of items passes it, and what passes it is a row of items.
use Prim.Native.Nat.{ℕ, suc, ◌+◌, ◌-◌, ◌*◌, ◌%◌, ◌≤◌, ◌<◌}
use mathlib.Core.Path.{◌≡◌, refl, ap, ◌∙◌}
use mathlib.Core.Bool.{true}
use mathlib.Core.List.{List, [], ◌∷◌, ◌++◌, append_assoc}
use lib.Bits.{bit_xor}
use lib.ListN.{length, length-append, get_or-append}
use lib.Seq.{get_or_at}
use borrow.Author.Tests.{eqb-false, ne_eqb}
use native.Mathlib.Omega.{arith}
use Rattle.basis.specs.Rows.{at}
use Rattle.basis.proofs.Tests.{by-lt}
use Rattle.utf16.specs.Points.{is_point}
use Rattle.altdude.specs.Decoding.{is_readable}
use Rattle.altdude_facts.specs.WellFormed.{Item, hyphen, group, symbols_in, Group, Groups, digits_after, group_value, RunningXor, RowOfItems}
use Rattle.altdude_facts.proofs.RoundTrip.{Readable, at-end, by_last, by-hyphen, by-leading, readable-is, readable-passes}

-- the leading symbols of a group
abbrev Leading : List ℕ → Type 0
Leading leading = (i : ℕ) → i < length leading → (16 ≤ at leading i) × (at leading i ≤ 31)

-- they can be read, and so can a row of items
read-leading : {m : ℕ} (v : ℕ) (leading : List ℕ) {last : ℕ} {l : List ℕ} → Leading leading → (v ≡ 0 → at leading 0 ≡ 16 → ⊥)
    → Readable m (digits_after v leading) (last ∷ l) → Readable m v (leading ++ (last ∷ l))
unfolding digits_after
read-leading v [] h n r = r
read-leading v (s ∷ leading) h n r =
    let k = h 0 (omega arith) in
    let q : v * 16 + s % 16 ≡ v * 16 + (s - 16) = omega arith in
    let p : v * 16 + (s - 16) ≡ 0 → ⊥ = λ e. n (omega arith) (omega arith) in
    by-leading k.0 (omega arith) p (read-leading (v * 16 + (s - 16)) leading (λ i g. h (suc i) (omega arith)) (λ e f. p e) (rw q at r))

read-items : (m : ℕ) (items : List Item) → Groups items → RunningXor m items → Readable m 0 (symbols_in items)
unfolding symbols_in Groups RunningXor group_value
read-items m [] g x = at-end
read-items m (hyphen ∷ items) g x = by-hyphen (read-items m items g x)
read-items m (group leading last ∷ items) g x =
    let point : is_point (bit_xor m (group_value leading last)) ≡ true = x.0 in
    let other : bit_xor m (group_value leading last) ≡ 45 → ⊥ = x.1 in
    read-leading 0 leading g.0.leading_high (λ e. g.0.no_leading_s)
    (by_last (omega (arith, g.0.last_low)) point (ne_eqb _ _ other) (read-items (bit_xor m (group_value leading last)) items g.1 x.2))

pub row-readable : (symbols : List ℕ) → RowOfItems symbols → is_readable 96 0 symbols ≡ true
row-readable symbols row =
    let joined : symbols ≡ symbols_in row.items = row.joined in
    rw joined (readable-passes (read-items 96 row.items row.groups row.running))

-- a row of items, with the running XOR from any number
record RowFrom (m : ℕ) (symbols : List ℕ) : Type 0 where
  items : List Item
  joined : symbols ≡ symbols_in items
  groups : Groups items
  running : RunningXor m items

digits-snoc : (x : ℕ) (values : List ℕ) (z : ℕ) → digits_after x (values ++ (z ∷ [])) ≡ digits_after x values * 16 + z % 16
unfolding digits_after
digits-snoc x [] z = refl
digits-snoc x (value ∷ values) z = digits-snoc (x * 16 + value % 16) values z

digits_le : (x : ℕ) (values : List ℕ) → x ≤ digits_after x values
unfolding digits_after
digits_le x [] = omega arith
digits_le x (value ∷ values) = omega (arith, digits_le (x * 16 + value % 16) values)

-- what is read of the open group: its leading symbols, with the pending value v
record Opened (v : ℕ) (leading : List ℕ) : Type 0 where
  high : Leading leading
  no-s : at leading 0 ≡ 16 → ⊥
  value : digits_after 0 leading ≡ v

opened-none : Opened 0 []
unfolding digits_after
opened-none = record { high = λ i h. absurd (omega arith); no-s = λ e. omega arith; value = refl }

-- the value 0 is that of no symbols
opened-empty : (leading : List ℕ) → Opened 0 leading → leading ≡ []
unfolding digits_after
opened-empty [] o = refl
opened-empty (s ∷ leading) o =
    let h = o.high 0 (omega arith) in
    absurd (o.no-s (omega (arith, o.value, digits_le (0 * 16 + s % 16) leading)))

opened-more : (v s : ℕ) (leading : List ℕ) → Opened v leading → 16 ≤ s → s < 32 → (v * 16 + (s - 16) ≡ 0 → ⊥) → Opened (v * 16 + (s - 16)) (leading ++ (s ∷ []))
unfolding digits_after
opened-more v s leading o h l n = record { high = high; no-s = no-s leading o.no-s o.value; value = digits-snoc 0 leading s ∙ rw o.value (omega arith) }
  where
    high : Leading (leading ++ (s ∷ []))
    high i k =
        by-lt i (length leading)
        (λ g. rw (get_or-append leading (s ∷ []) 0 i g) (o.high i g))
        (λ g. rw (get_or_at leading s [] 0 i (omega (arith, length-append leading (s ∷ [])))) (h, omega arith))

    no-s : (leading : List ℕ) → (at leading 0 ≡ 16 → ⊥) → digits_after 0 leading ≡ v → at (leading ++ (s ∷ [])) 0 ≡ 16 → ⊥
    no-s [] f e q = n (omega arith)
    no-s (x ∷ leading) f e q = f q

-- a group's last symbol
module _ (v s : ℕ) (leading : List ℕ) (o : Opened v leading) (low : s < 16) where
  opened-group : Group leading s
  opened-group = record { leading_high = o.high; last_low = omega arith; no_leading_s = o.no-s }

  opened-value : group_value leading s ≡ v * 16 + s
  unfolding group_value
  opened-value = rw o.value

-- a readable row after an open group is a row of items
row-after : {m v : ℕ} {l : List ℕ} → Readable m v l → (leading : List ℕ) → Opened v leading → RowFrom m (leading ++ l)
unfolding symbols_in Groups RunningXor
row-after at-end leading o = rw (opened-empty leading o) (record { items = []; joined = refl; groups = tt; running = tt })
row-after (by-hyphen r) leading o =
    let row = row-after r [] opened-none in
    rw (opened-empty leading o) (record {
      items = hyphen ∷ row.items;
      joined = ap (λ (l : List ℕ). 45 ∷ l) row.joined;
      groups = row.groups;
      running = row.running;
    })
row-after (by_last {v = v} {s = s} low p n r) leading o =
    let row = row-after r [] opened-none in
    record {
      items = group leading s ∷ row.items;
      joined = ap (λ (l : List ℕ). leading ++ (s ∷ l)) row.joined;
      groups = (opened-group v s leading o low, row.groups);
      running = rw (opened-value v s leading o low) (p, eqb-false _ _ n, row.running);
    }
row-after (by-leading {v = v} {s = s} high less n r) leading o =
    rw append_assoc at (row-after r (leading ++ (s ∷ [])) (opened-more v s leading o high less n))

pub readable_row : (symbols : List ℕ) → is_readable 96 0 symbols ≡ true → RowOfItems symbols
readable_row symbols e =
    let row = row-after (readable-is 96 0 symbols e) [] opened-none in
    record { items = row.items; joined = row.joined; groups = row.groups; running = row.running }
