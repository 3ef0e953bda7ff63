-- Quintets with LDH between them are read back, over any style whose codes can be told apart.
use Prim.Native.Nat.{ℕ, zero, suc, ◌+◌, ◌-◌, ◌*◌, ◌/◌, ◌%◌, ◌^◌, ◌≤◌, ◌<◌}
use mathlib.Core.Path.{◌≡◌, refl, sym, ap, ◌∙◌}
use mathlib.Core.Bool.{Bool, true, false, not}
use mathlib.Core.List.{List, [], ◌∷◌}
use lib.Dec.{eqb}
use lib.Pow.{shr-shr, shr_lt, high, low, pow_pos}
use borrow.Author.Tests.{eqb-true}
use native.Mathlib.Nat.{div-one}
use native.Mathlib.Omega.{arith}
use Rattle.basis.proofs.Tests.{cases}
use Rattle.ascii.specs.Ldh.{is_ldh}
use Rattle.copying.specs.Symbols.{quintets}
use Rattle.copying.specs.declared.Mode.{Mode}
use Rattle.copying.specs.Modes.{after_hyphen, after_other, copying_after, is_copied, is_second, switch_if}
use Rattle.copying.specs.declared.Mode.TheVariants.{Coded, CodedHyphen, Copied, CopiedHyphen}
use Rattle.copying.proofs.Modes.{mode_of, after-coded}
use Rattle.copying.proofs.Bytes.{hyphen-ldh, ldh-from}
use Rattle.copying.proofs.Heads.{join-quintet}
use Rattle.brace_format.specs.declared.style.Style.{Style}
use Rattle.brace_format.specs.Style.{width_of, code_of, width_by, unit_of}
use Rattle.brace_symbols.specs.Encoding.{quintet_count, spare_count, ahead, code_quintets, unit_symbols, out_after, symbols_from}
use Rattle.brace_text.specs.Decoding.{due_width}
use Rattle.brace_facts.proofs.Steps.{Reads, reads_none, reads-hyphen, reads-copied, reads-part, reads-last}

-- the last n + 1 quintets of x, a code of w bits and then spare ones, with those before in the queue
reads-quintets : (s : Style) (x w spare : ℕ) (symbols t : List ℕ) → 2 ≤ w → spare ≤ 4 → width_by s (x / 2 ^ (w + spare - 2)) ≡ w
    → Reads s Coded spare (x % 2 ^ spare) symbols t
    → (n : ℕ) (m : Mode) (k : ℕ) → is_copied m ≡ false → k + 5 * suc n ≡ w + spare
    → Reads s m k (x / 2 ^ (5 * suc n)) (quintets (suc n) x symbols) (unit_of s (x / 2 ^ spare) ∷ t)
unfolding quintets due_width is_copied
reads-quintets s x w spare symbols t two few top r zero m k c e =
    let q : k + 5 - 2 ≡ w + spare - 2 = omega arith in
    reads-last s m k (x / 2 ^ 5) (x / 2 ^ 0 % 32) x (omega arith) c (join-quintet x 0 ∙ div-one x) symbols t w spare
    (ap (λ (i : ℕ). width_by s (x / 2 ^ i)) q ∙ top) (omega arith) (rw (after-coded m c) r)
reads-quintets s x w spare symbols t two few top r (suc n) m k c e =
    let q : 5 * suc n + (k + 5 - 2) ≡ w + spare - 2 = omega arith in
    let d : width_by s (x / 2 ^ (5 * suc n) / 2 ^ (k + 5 - 2)) ≡ w = ap (width_by s) (shr-shr x (5 * suc n) (k + 5 - 2) ∙ ap (λ (i : ℕ). x / 2 ^ i) q) ∙ top in
    reads-part s m k (x / 2 ^ (5 * suc (suc n))) (x / 2 ^ (5 * suc n) % 32) (x / 2 ^ (5 * suc n)) (omega arith) c (join-quintet x (suc n)) (quintets (suc n) x symbols) _
    (rw d (omega arith))
    (rw (after-coded m c) (reads-quintets s x w spare symbols t two few top r n Coded (k + 5) refl (omega arith)))

-- the code of a unit can be told apart and gives it back
pub record Codes (s : Style) (u : ℕ) : Type 0 where
  pub wide : 5 ≤ width_of s u
  pub fits : code_of s u < 2 ^ width_of s u
  pub told : width_by s (code_of s u / 2 ^ (width_of s u - 2)) ≡ width_of s u
  pub back : unit_of s (code_of s u) ≡ u

-- the same of every unit of a text that is not LDH
unfoldable pub AllCodes : Style → List ℕ → Type 0
AllCodes s [] = Unit {0}
AllCodes s (u ∷ t) = (is_ldh u ≡ false → Codes s u) × AllCodes s t

-- the first k bits of what follows are k bits
pub ahead-lt : (s : Style) (k : ℕ) (t : List ℕ) → k ≤ 4 → AllCodes s t → ahead s k t < 2 ^ k
unfolding ahead AllCodes
ahead-lt s k [] h a = pow_pos k
ahead-lt s k (u ∷ t) h a =
    cases (is_ldh u)
    (λ e. rw e (ahead-lt s k t h a.1))
    (λ e.
    let c = a.0 e in
    let w = c.wide in
    let q : width_of s u ≡ k + (width_of s u - k) = omega arith in
    rw e (shr_lt k (width_of s u - k) (rw (← q) c.fits)))

-- how many quintets a code takes, and how many spare bits they have
module _ (k w : ℕ) (out : k ≤ 4) (wide : 2 ≤ w) where
  pub spare-few : spare_count k w ≤ 4
  unfolding spare_count quintet_count
  spare-few = omega arith

  joined-count : k ≤ w → k + 5 * quintet_count k w ≡ w + spare_count k w
  unfolding spare_count quintet_count
  joined-count h = omega arith

-- a number of a code and spare bits
module _ (c spare a : ℕ) (few : a < 2 ^ spare) where
  pub after-spare : (i : ℕ) → (c * 2 ^ spare + a) / 2 ^ (spare + i) ≡ c / 2 ^ i
  after-spare i = sym (shr-shr (c * 2 ^ spare + a) spare i) ∙ ap (λ (y : ℕ). y / 2 ^ i) (high c spare few)

-- a code of w bits and value c, the first k of which are in the queue, is read as its unit
module _ (s : Style) (k w c : ℕ) (t : List ℕ) (out : k ≤ 4) (wide : 5 ≤ w) (told : width_by s (c / 2 ^ (w - 2)) ≡ w) (few : ahead s (spare_count k w) t < 2 ^ spare_count k w) where
  reads-count : (n : ℕ) → quintet_count k w ≡ n → (symbols text : List ℕ) → Reads s Coded (spare_count k w) (ahead s (spare_count k w) t) symbols text → (m : Mode) → is_copied m ≡ false
      → Reads s m k (c / 2 ^ (w - k)) (quintets n (c * 2 ^ spare_count k w + ahead s (spare_count k w) t) symbols) (unit_of s c ∷ text)
  reads-count zero e symbols text r m free = absurd (omega (arith, joined-count k w out (omega arith) (omega arith)))
  reads-count (suc n) e symbols text r m free =
      let j = joined-count k w out (omega arith) (omega arith) in
      let p : w + spare_count k w - 2 ≡ spare_count k w + (w - 2) = omega arith in
      let q : 5 * suc n ≡ spare_count k w + (w - k) = omega arith in
      let x = c * 2 ^ spare_count k w + ahead s (spare_count k w) t in
      let g = reads-quintets s x w (spare_count k w) symbols text (omega arith) (spare-few k w out (omega arith))
      (ap (λ (i : ℕ). width_by s (x / 2 ^ i)) p ∙ ap (width_by s) (after-spare c (spare_count k w) _ few (w - 2)) ∙ told)
      (rw (low c (spare_count k w) few) r) n m k free (omega arith) in
      let d : x / 2 ^ (5 * suc n) ≡ c / 2 ^ (w - k) = ap (λ (i : ℕ). x / 2 ^ i) q ∙ after-spare c (spare_count k w) _ few (w - k) in
      rw (d, high c (spare_count k w) few) at g

  reads-code : (symbols text : List ℕ) → Reads s Coded (spare_count k w) (ahead s (spare_count k w) t) symbols text → (m : Mode) → is_copied m ≡ false
      → Reads s m k (c / 2 ^ (w - k)) (code_quintets s k w c t symbols) (unit_of s c ∷ text)
  unfolding code_quintets
  reads-code = reads-count (quintet_count k w) refl

-- the symbols of a hyphen, of a letter or digit, and of a code
module _ (s : Style) (copying : Bool) (k v : ℕ) (symbols t : List ℕ) where
  reads-pair : Reads s (mode_of copying) k v symbols t → Reads s (mode_of copying) k v (45 ∷ 45 ∷ symbols) (45 ∷ t)
  unfolding mode_of is_second after_hyphen
  reads-pair = go copying
    where
      go : (copying : Bool) → Reads s (mode_of copying) k v symbols t → Reads s (mode_of copying) k v (45 ∷ 45 ∷ symbols) (45 ∷ t)
      go true r = reads-hyphen s Copied k v (45 ∷ symbols) (45 ∷ t) (reads-hyphen s CopiedHyphen k v symbols t r)
      go false r = reads-hyphen s Coded k v (45 ∷ symbols) (45 ∷ t) (reads-hyphen s CodedHyphen k v symbols t r)

  reads-letter : (u : ℕ) → is_ldh u ≡ true → eqb u 45 ≡ false → Reads s Copied k v symbols t → Reads s (mode_of copying) k v (switch_if (not copying) (u ∷ symbols)) (u ∷ t)
  unfolding mode_of is_second after_hyphen after_other is_copied switch_if
  reads-letter u e n = go copying
    where
      go : (copying : Bool) → Reads s Copied k v symbols t → Reads s (mode_of copying) k v (switch_if (not copying) (u ∷ symbols)) (u ∷ t)
      go true r = reads-copied s Copied k v u symbols t (ldh-from u e) n refl r
      go false r = reads-hyphen s Coded k v (u ∷ symbols) (u ∷ t) (reads-copied s CodedHyphen k v u symbols t (ldh-from u e) n refl r)

  reads-switch : ((m : Mode) → is_copied m ≡ false → Reads s m k v symbols t) → Reads s (mode_of copying) k v (switch_if copying symbols) t
  unfolding mode_of is_second after_hyphen is_copied switch_if
  reads-switch = go copying
    where
      go : (copying : Bool) → ((m : Mode) → is_copied m ≡ false → Reads s m k v symbols t) → Reads s (mode_of copying) k v (switch_if copying symbols) t
      go true r = reads-hyphen s Copied k v symbols t (r CopiedHyphen refl)
      go false r = r Coded refl

-- the symbols of a text are read as that text
pub reads-text : (s : Style) (t : List ℕ) → AllCodes s t → (copying : Bool) (k : ℕ) → k ≤ 4 → Reads s (mode_of copying) k (ahead s k t) (symbols_from s copying k t) t
unfolding symbols_from unit_symbols copying_after out_after ahead AllCodes mode_of
reads-text s [] a copying k h = reads_none s (mode_of copying) k 0
reads-text s (u ∷ t) a copying k h =
    cases (eqb u 45)
    (λ e. rw (eqb-true u 45 e, hyphen-ldh) (reads-pair s copying k _ _ t (reads-text s t a.1 copying k h)))
    (λ n. cases (is_ldh u)
    (λ e. rw (n, e) (reads-letter s copying k _ _ t u e n (reads-text s t a.1 true k h)))
    (λ e.
    let c = a.0 e in
    let sp = spare-few k (width_of s u) h (omega (arith, c.wide)) in
    let r = reads-text s t a.1 false (spare_count k (width_of s u)) sp in
    let g = reads-code s k (width_of s u) (code_of s u) t h c.wide c.told (ahead-lt s (spare_count k (width_of s u)) t sp a.1) _ t r in
    rw (n, e) (reads-switch s copying k _ _ (u ∷ t) (λ m f. rw c.back at (g m f)))))
