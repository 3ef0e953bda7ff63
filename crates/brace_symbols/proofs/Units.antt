-- The symbols of one unit and of the units that follow: how many, and as they are stored.
use Prim.Native.Nat.{ℕ, zero, suc, ◌+◌, ◌*◌, ◌/◌, ◌%◌, ◌^◌, ◌≤◌, ◌<◌, min}
use mathlib.Core.Path.{◌≡◌, refl, sym, ap, ◌∙◌}
use mathlib.Core.Bool.{Bool, true, false, not}
use mathlib.Core.List.{List, [], ◌∷◌, ◌++◌, append_assoc}
use lib.Dec.{eqb}
use lib.ListN.{length, drop, set, get_or, length-append, length-set, drop_of_length-le}
use lib.Seq.{drop-cons}
use native.Mathlib.Numerals.{add-one}
use borrow.Author.Tests.{eq-eqb, ne_eqb}
use native.Mathlib.Omega.{arith}
use Rattle.basis.proofs.Tests.{cases, by-lt, true-not-false}
use Rattle.basis.proofs.Stores.{StoringFrom, Stored, storing-piece, storing-end}
use Rattle.ascii.specs.Ldh.{is_ldh}
use Rattle.ascii.proofs.Ldh.{ldh-above}
use Rattle.copying.specs.Symbols.{quintets}
use Rattle.copying.specs.Modes.{switch_if, copying_after}
use Rattle.brace_format.specs.declared.style.Style.{Style}
use Rattle.brace_format.specs.Signature.{signature}
use Rattle.brace_format.specs.Style.{head_width, head_value, width_of, code_of}
use Rattle.brace_symbols.specs.Encoding.{quintet_count, spare_count, code_quintets, unit_symbols, out_after, symbols_from, body_of}
use Rattle.brace_symbols.proofs.Codes.{width_few, head_few}

-- what comes before the rest does not depend on it
quintets-append : (n x : ℕ) (rest : List ℕ) → quintets n x rest ≡ quintets n x [] ++ rest
unfolding quintets
quintets-append zero x rest = refl
quintets-append (suc n) x rest = ap (λ (l : List ℕ). x / 2 ^ (5 * n) % 32 ∷ l) (quintets-append n x rest)

switch-append : (b : Bool) (rest : List ℕ) → switch_if b rest ≡ switch_if b [] ++ rest
unfolding switch_if
switch-append true rest = refl
switch-append false rest = refl

pub code-append : (s : Style) (k w c : ℕ) (t rest : List ℕ) → code_quintets s k w c t rest ≡ code_quintets s k w c t [] ++ rest
unfolding code_quintets
code-append s k w c t rest = quintets-append _ _ rest

pub length-quintets : (n x : ℕ) → length (quintets n x []) ≡ n
unfolding quintets
length-quintets zero x = refl
length-quintets (suc n) x = ap suc (length-quintets n x)

pub length-code : (s : Style) (k w c : ℕ) (t : List ℕ) → length (code_quintets s k w c t []) ≡ quintet_count k w
unfolding code_quintets
length-code s k w c t = length-quintets _ _

length-switch : (b : Bool) (rest : List ℕ) → length (switch_if b rest) ≡ length (switch_if b []) + length rest
length-switch b rest = ap length (switch-append b rest) ∙ length-append (switch_if b []) rest

-- a letter that is copied, without and with a hyphen before it
pub letter-copying : (b : Bool) (u : ℕ) → b ≡ true → switch_if (not b) (u ∷ []) ≡ u ∷ []
unfolding switch_if
letter-copying b u e = rw e

pub letter-first : (b : Bool) (u : ℕ) → b ≡ false → switch_if (not b) (u ∷ []) ≡ 45 ∷ u ∷ []
unfolding switch_if
letter-first b u e = rw e

-- LDH is a byte
pub ldh-byte : (u : ℕ) → is_ldh u ≡ true → u < 256
ldh-byte u e = by-lt u 123 (λ h. omega arith) (λ h. absurd (true-not-false e (ldh-above u h)))

-- two symbols stored
pub stored_two : (old : List ℕ) (at x y : ℕ) → Stored old at (x ∷ y ∷ []) (set (set old at x) (at + 1) y) (at + 2)
stored_two old at x y = record { stores = rw add-one; count = omega arith; long = simp length-set }

-- a code after a hyphen that changes, or alone, with its width and value as they are answered
module _ (s : Style) (k u w c : ℕ) (t : List ℕ) (ew : w ≡ width_of s u) (ec : c ≡ code_of s u) (b : Bool) where
  pub code-copying : b ≡ true → switch_if b (code_quintets s k (width_of s u) (code_of s u) t []) ≡ 45 ∷ code_quintets s k w c t []
  unfolding switch_if
  code-copying e = rw (e, ew, ec)

  pub code-alone : b ≡ false → switch_if b (code_quintets s k (width_of s u) (code_of s u) t []) ≡ code_quintets s k w c t []
  unfolding switch_if
  code-alone e = rw (e, ew, ec)

-- the symbols of one unit
module _ (s : Style) (copying : Bool) (k u : ℕ) (t : List ℕ) where
  pub unit-hyphen : u ≡ 45 → unit_symbols s copying k u t [] ≡ 45 ∷ 45 ∷ []
  unfolding unit_symbols
  unit-hyphen e = rw (eq-eqb u 45 e)

  module _ (n : u ≡ 45 → ⊥) (b : Bool) (eb : b ≡ is_ldh u) where
    pub unit-letter : b ≡ true → unit_symbols s copying k u t [] ≡ switch_if (not copying) (u ∷ [])
    unfolding unit_symbols
    unit-letter e = rw (ne_eqb u 45 n, sym eb ∙ e)

    pub unit-code : b ≡ false → unit_symbols s copying k u t [] ≡ switch_if copying (code_quintets s k (width_of s u) (code_of s u) t [])
    unfolding unit_symbols
    unit-code e = rw (ne_eqb u 45 n, sym eb ∙ e)

  pub unit-append : (rest : List ℕ) → unit_symbols s copying k u t rest ≡ unit_symbols s copying k u t [] ++ rest
  unfolding unit_symbols code_quintets
  unit-append rest =
      cases (eqb u 45)
      (λ e. rw e)
      (λ n. cases (is_ldh u)
      (λ e. rw (n, e, switch-append (not copying) (u ∷ rest), switch-append (not copying) (u ∷ []), append_assoc))
      (λ e. rw (n, e, switch-append copying (quintets _ _ rest), quintets-append _ _ rest, switch-append copying (quintets _ _ []), append_assoc)))

  -- how many they are does not depend on what follows
  unit-alone : length (unit_symbols s copying k u t []) ≡ length (unit_symbols s copying k u [] [])
  unfolding unit_symbols
  unit-alone =
      cases (eqb u 45)
      (λ e. rw e)
      (λ n. cases (is_ldh u)
      (λ e. rw (n, e))
      (λ e. rw (n, e, length-switch copying (code_quintets s k (width_of s u) (code_of s u) t []), length-switch copying (code_quintets s k (width_of s u) (code_of s u) [] []), length-code s k (width_of s u) (code_of s u) t, length-code s k (width_of s u) (code_of s u) [])))

-- their number, as it is answered
module _ (s : Style) (copying : Bool) (k u : ℕ) where
  pub length-hyphen : u ≡ 45 → (2 ≡ length (unit_symbols s copying k u [] [])) × (2 ≤ 5)
  length-hyphen e = (sym (ap length (unit-hyphen s copying k u [] e)), omega arith)

  module _ (n : u ≡ 45 → ⊥) (b : Bool) (eb : b ≡ is_ldh u) where
    pub length-letter : b ≡ true → (x : ℕ) → x ≡ length (switch_if (not copying) []) → x ≤ 1 → (x + 1 ≡ length (unit_symbols s copying k u [] [])) × (x + 1 ≤ 5)
    length-letter e x ex l =
        let q = ap length (unit-letter s copying k u [] n b eb e) ∙ length-switch (not copying) (u ∷ []) in
        (omega (arith, q, ex), omega arith)

    pub length-coded : b ≡ false → k ≤ 4 → (x w c : ℕ) → x ≡ length (switch_if copying []) → x ≤ 1 → w ≡ width_of s u → c ≡ quintet_count k w
        → (x + c ≡ length (unit_symbols s copying k u [] [])) × (x + c ≤ 5)
    unfolding quintet_count
    length-coded e few x w c ex l ew ec =
        let q = ap length (unit-code s copying k u [] n b eb e) ∙ length-switch copying (code_quintets s k (width_of s u) (code_of s u) [] []) in
        let r = length-code s k (width_of s u) (code_of s u) [] in
        (omega (arith, q, r, ex, ew, ec), omega (arith, (width_few s u).1, ew, ec))

-- the unit at i and what follows it
split-unit : (s : Style) (copying : Bool) (out : ℕ) (t : List ℕ) (i : ℕ) → i < length t → symbols_from s copying out (drop i t)
    ≡ unit_symbols s copying out (get_or t i 0) (drop (i + 1) t) [] ++ symbols_from s (copying_after copying (get_or t i 0)) (out_after s out (get_or t i 0)) (drop (i + 1) t)
unfolding symbols_from
split-unit s copying out t i h = rw (drop-cons t i 0 h, add-one) (unit-append s copying out (get_or t i 0) (drop (suc i) t) _)

-- the symbols of the units from i on, as they are stored; with no unit left there is none
module _ {whole old symbols : List ℕ} {at to : ℕ} (s : Style) (copying : Bool) (out : ℕ) (t : List ℕ) (i : ℕ) (p : StoringFrom at old whole symbols to (symbols_from s copying out (drop i t))) where
  pub unit-fits : i < length t → at + length whole ≤ length old
      → to + length (unit_symbols s copying out (get_or t i 0) (drop (i + 1) t) []) ≤ length symbols
  unit-fits h fits = omega (arith, p.count, p.long, ap length (split-unit s copying out t i h) ∙ length-append (unit_symbols s copying out (get_or t i 0) (drop (i + 1) t) []) _)

  pub unit-stored : i < length t → {symbols' : List ℕ} {to' : ℕ} → Stored symbols to (unit_symbols s copying out (get_or t i 0) (drop (i + 1) t) []) symbols' to'
      → {s' : Style} {copying' : Bool} {out' : ℕ} → s' ≡ s → copying' ≡ copying_after copying (get_or t i 0) → out' ≡ out_after s out (get_or t i 0)
      → StoringFrom at old whole symbols' to' (symbols_from s' copying' out' (drop (i + 1) t))
  unit-stored h stored es ec eo = storing-piece p (rw (es, ec, eo) (split-unit s copying out t i h)) stored

  pub units-stored : length t ≤ i → Stored old at whole symbols to
  unfolding symbols_from
  units-stored h = storing-end p (rw drop_of_length-le)

-- a body is the head before the units
pub body_is : (s : Style) (t : List ℕ) → body_of s t ≡ code_quintets s 0 (head_width s) (head_value s) t [] ++ symbols_from s false (spare_count 0 (head_width s)) t
unfolding body_of
body_is s t = code-append s 0 (head_width s) (head_value s) t _

pub length-signed : (s : Style) (t : List ℕ) → length (body_of s t ++ signature) ≡ 4 + quintet_count 0 (head_width s) + length (symbols_from s false (spare_count 0 (head_width s)) t)
unfolding signature
length-signed s t =
    let e = ap length (body_is s t) ∙ length-append (code_quintets s 0 (head_width s) (head_value s) t []) (symbols_from s false (spare_count 0 (head_width s)) t) in
    omega (arith, length-append (body_of s t) (45 ∷ 6 ∷ 22 ∷ 7 ∷ []), e, length-code s 0 (head_width s) (head_value s) t)

-- n symbols of a whole row are counted, those of the units from i on are left
pub record Tallying (whole t : List ℕ) (n : ℕ) (s : Style) (copying : Bool) (out i : ℕ) : Type 0 where
  pub total : length whole ≡ n + length (symbols_from s copying out (drop i t))
  pub most : n ≤ 63

pub tallying-start : (s : Style) (t : List ℕ) (w n : ℕ) (s' : Style) (copying : Bool) (out : ℕ) → w ≡ head_width s → n ≡ quintet_count 0 w
    → s' ≡ s → copying ≡ false → out ≡ spare_count 0 (head_width s) → Tallying (body_of s t ++ signature) t (4 + n) s' copying out 0
unfolding quintet_count
tallying-start s t w n s' copying out ew en es ec eo = record {
  total = rw (es, ec, eo, en, ew) (length-signed s t);
  most = omega (arith, (head_few s).1, ew, en);
}

module _ {whole t : List ℕ} {n : ℕ} {s : Style} {copying : Bool} {out i : ℕ} (p : Tallying whole t n s copying out i) where
  unit-counted : i < length t → (r : ℕ) → r ≡ length (unit_symbols s copying out (get_or t i 0) [] [])
      → length whole ≡ n + r + length (symbols_from s (copying_after copying (get_or t i 0)) (out_after s out (get_or t i 0)) (drop (i + 1) t))
  unit-counted h r e =
      let q = ap length (split-unit s copying out t i h) ∙ length-append (unit_symbols s copying out (get_or t i 0) (drop (i + 1) t) []) _ in
      omega (arith, p.total, q, unit-alone s copying out (get_or t i 0) (drop (i + 1) t), e)

  pub tallying-over : i < length t → (r : ℕ) → r ≡ length (unit_symbols s copying out (get_or t i 0) [] []) → 63 < n + r → 64 ≡ min 64 (length whole)
  tallying-over h r e l = omega (arith, unit-counted h r e)

  pub tallying-turn : i < length t → (r : ℕ) → r ≡ length (unit_symbols s copying out (get_or t i 0) [] []) → n + r ≤ 63
      → (s' : Style) (copying' : Bool) (out' : ℕ) → s' ≡ s → copying' ≡ copying_after copying (get_or t i 0) → out' ≡ out_after s out (get_or t i 0) → Tallying whole t (n + r) s' copying' out' (i + 1)
  tallying-turn h r e l s' copying' out' es ec eo = record {
    total = rw (es, ec, eo) (unit-counted h r e);
    most = l;
  }

  pub tallying-end : length t ≤ i → n ≡ min 64 (length whole)
  unfolding symbols_from
  tallying-end h =
      let e : symbols_from s copying out (drop i t) ≡ [] = rw drop_of_length-le in
      omega (arith, p.total, ap length e, p.most)
