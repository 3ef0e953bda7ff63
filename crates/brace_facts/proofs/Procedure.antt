-- The draft's procedure gives the same symbols.
use Prim.Native.Nat.{ℕ, zero, suc, ◌+◌, ◌-◌, ◌*◌, ◌/◌, ◌%◌, ◌^◌, ◌≤◌, ◌<◌}
use mathlib.Core.Path.{◌≡◌, refl, sym, ap, ap₂, ◌∙◌}
use mathlib.Core.Bool.{Bool, true, false, not, ◌||◌, or-true, or-false, or_assoc}
use mathlib.Core.List.{List, [], ◌∷◌, ◌++◌, append_assoc, append-nil}
use lib.Dec.{eqb}
use lib.Pow.{shr-shr, high, low, pow_pos, pow-add, field, mod-mod-pow, mod-pow-add}
use borrow.Author.Tests.{eqb-true, eqb-false, ne_eqb}
use native.Mathlib.Nat.{div-one, mul_assoc, mul-add-mod_self_right, mod-lt, mod-eq_of_lt, sub-zero, mul-add-div_right, add-zero, zero-add, zero-mul}
use native.Mathlib.Omega.{arith}
use Rattle.basis.specs.Tests.{pick}
use Rattle.basis.specs.Rows.{AllBelow}
use Rattle.basis.proofs.Tests.{cases}
use Rattle.ascii.specs.Ldh.{is_ldh}
use Rattle.copying.specs.Symbols.{quintets}
use Rattle.copying.specs.Modes.{copying_after, switch_if}
use Rattle.copying.proofs.Bytes.{hyphen-ldh}
use Rattle.brace_choice.specs.Choice.{style_of}
use Rattle.brace_format.specs.declared.style.Style.{Style}
use Rattle.brace_format.specs.declared.style.Style.TheVariants.{HalfRow, Row, Mixed, NoRow}
use Rattle.brace_format.specs.Style.{head_width, head_value, width_of, code_of}
use Rattle.brace_symbols.specs.Encoding.{quintet_count, spare_count, ahead, code_quintets, unit_symbols, out_after, symbols_from, body_of}
use Rattle.brace_text.specs.Internal.{RowFits}
use Rattle.brace_facts.specs.Procedure.{has_letter, dequeue_all, enqueue_code, buffer_after, bits_after, value_after, unit_out, draft_from, draft_body}
use Rattle.brace_facts.proofs.Codes.{Codes, AllCodes, ahead-lt, after-spare}
use Rattle.brace_facts.proofs.Styles.{text-suits}
use Rattle.brace_facts.proofs.RoundTrip.{style-fits}

-- the last n quintets do not look at higher bits
quintets-mod : (n j x : ℕ) (rest : List ℕ) → 5 * n ≤ j → quintets n (x % 2 ^ j) rest ≡ quintets n x rest
unfolding quintets
quintets-mod zero j x rest h = refl
quintets-mod (suc n) j x rest h = ap₂ ◌∷◌ (digit (j - 5 * suc n) (omega arith)) (quintets-mod n j x rest (omega arith))
  where
    digit : (d : ℕ) → j ≡ d + 5 + 5 * n → x % 2 ^ j / 2 ^ (5 * n) % 32 ≡ x / 2 ^ (5 * n) % 32
    digit d e = rw e (ap (λ (y : ℕ). y % 32) (field x (d + 5) (5 * n)) ∙ mod-mod-pow (x / 2 ^ (5 * n)) d 5)

-- the last of them by itself
quintets-last : (n x : ℕ) (rest : List ℕ) → quintets (suc n) x rest ≡ quintets n (x / 32) (x % 32 ∷ rest)
unfolding quintets
quintets-last zero x rest = ap (λ (y : ℕ). y % 32 ∷ rest) (div-one x)
quintets-last (suc n) x rest =
    let e : x / 2 ^ (5 * suc n) ≡ x / 32 / 2 ^ (5 * n) = ap (λ (i : ℕ). x / 2 ^ i) (omega arith) ∙ sym (shr-shr x 5 (5 * n)) in
    ap₂ ◌∷◌ (ap (λ (y : ℕ). y % 32) e) (quintets-last n x rest)

-- the quintet that the queue and the bits that follow make, if the queue is not empty, before the rest
unfoldable flush : Style → ℕ → ℕ → List ℕ → List ℕ → List ℕ
flush s n v t rest = pick (eqb n 0) rest ((v * 2 ^ (5 - n) + ahead s (5 - n) t) ∷ rest)

-- how many bits of what follows that quintet holds
unfoldable room : ℕ → ℕ
room n = pick (eqb n 0) 0 (5 - n)

spare-is : (k w r : ℕ) → k ≤ w → (w - k) % 5 ≡ r → spare_count k w ≡ pick {A = ℕ} (eqb r 0) 0 (5 - r)
unfolding spare_count quintet_count
spare-is k w r h e =
    cases (eqb r 0)
    (λ q. let z : r ≡ 0 = eqb-true r 0 q in rw q (omega arith))
    (λ q. let z : r ≡ 0 → ⊥ = eqb-false r 0 q in rw q (omega arith))

-- d bits of a code that are not out yet, by the queue and by looking ahead
module _ (s : Style) (k w c : ℕ) (t rest : List ℕ) (out : k ≤ w) (a : AllCodes s t) where
  none_left : (w - k) % 5 ≡ 0 → code_quintets s k w c t rest ≡ quintets ((w - k) / 5) (c % 2 ^ (w - k)) rest
  unfolding code_quintets quintet_count spare_count
  none_left e =
      let q : (w - k + 4) / 5 ≡ (w - k) / 5 = omega arith in
      let p : k + 5 * ((w - k + 4) / 5) - w ≡ 0 = omega arith in
      let z : ahead s 0 t < 1 = ahead-lt s 0 t (omega arith) a in
      let y : c * 2 ^ 0 + ahead s 0 t ≡ c = omega arith in
      rw (p, q, y) (sym (quintets-mod ((w - k) / 5) (w - k) c rest (omega arith)))

  some_left : (r m : ℕ) → (w - k) % 5 ≡ suc r → (w - k) / 5 ≡ m
      → code_quintets s k w c t rest ≡ quintets m (c % 2 ^ (w - k) / 2 ^ suc r) ((c % 2 ^ suc r * 2 ^ (5 - suc r) + ahead s (5 - suc r) t) ∷ rest)
  unfolding code_quintets quintet_count spare_count
  some_left r m e f =
      let q : (w - k + 4) / 5 ≡ suc m = omega arith in
      let p : k + 5 * ((w - k + 4) / 5) - w ≡ 5 - suc r = omega arith in
      let j : w - k ≡ 5 * m + suc r = omega arith in
      let five : 5 ≡ 5 - suc r + suc r = omega arith in
      let also : 5 ≡ suc r + (5 - suc r) = omega arith in
      let few = ahead-lt s (5 - suc r) t (omega arith) a in
      let x = c * 2 ^ (5 - suc r) + ahead s (5 - suc r) t in
      let up : x / 32 ≡ c / 2 ^ suc r = ap (λ (i : ℕ). x / 2 ^ i) five ∙ after-spare c (5 - suc r) _ few (suc r) in
      let down : x % 32 ≡ c % 2 ^ suc r * 2 ^ (5 - suc r) + ahead s (5 - suc r) t =
      ap (λ (i : ℕ). x % 2 ^ i) also ∙ mod-pow-add x (suc r) (5 - suc r)
      ∙ ap₂ (λ (y z : ℕ). y % 2 ^ suc r * 2 ^ (5 - suc r) + z) (high c (5 - suc r) few) (low c (5 - suc r) few) in
      let side : c % 2 ^ (w - k) / 2 ^ suc r ≡ c / 2 ^ suc r % 2 ^ (5 * m) = rw j (field c (5 * m) (suc r)) in
      rw (p, q, side, quintets-last m x rest, up, down) (sym (quintets-mod m (5 * m) (c / 2 ^ suc r) _ (omega arith)))

  -- both at once: what is left after all whole quintets goes into the queue
  left_over : code_quintets s k w c t rest ≡ dequeue_all (w - k) (c % 2 ^ (w - k)) (flush s ((w - k) % 5) (c % 2 ^ ((w - k) % 5)) t rest)
  unfolding dequeue_all flush
  left_over = by-rest ((w - k) % 5) refl
    where
      by-rest : (r : ℕ) → (w - k) % 5 ≡ r
          → code_quintets s k w c t rest ≡ quintets ((w - k) / 5) (c % 2 ^ (w - k) / 2 ^ ((w - k) % 5)) (pick (eqb ((w - k) % 5) 0) rest ((c % 2 ^ ((w - k) % 5) * 2 ^ (5 - (w - k) % 5) + ahead s (5 - (w - k) % 5) t) ∷ rest))
      by-rest zero e = rw (e, div-one) (none_left e)
      by-rest (suc r) e = rw (e, ne_eqb (suc r) 0 (λ q. omega arith)) (some_left r ((w - k) / 5) e refl)

-- d bits of the queue with a code after it, d at most those of the code
module _ (v w c d : ℕ) (h : d ≤ w) where
  raised : v * 2 ^ w ≡ v * 2 ^ (w - d) * 2 ^ d
  raised = let e : w ≡ w - d + d = omega arith in ap (λ (i : ℕ). v * 2 ^ i) e ∙ ap (λ (y : ℕ). v * y) (pow-add 2 (w - d) d) ∙ sym (mul_assoc v (2 ^ (w - d)) (2 ^ d))

  lower-bits : (v * 2 ^ w + c) % 2 ^ d ≡ c % 2 ^ d
  lower-bits = rw raised (mul-add-mod_self_right (v * 2 ^ (w - d)) (2 ^ d) c)

  upper-bits : (v * 2 ^ w + c) / 2 ^ d ≡ v * 2 ^ (w - d) + c / 2 ^ d
  upper-bits = rw raised (mul-add-div_right (pow_pos d) (v * 2 ^ (w - d)) c)

-- letters in the buffer
letter-append : (x y : List ℕ) → has_letter (x ++ y) ≡ (has_letter x || has_letter y)
unfolding has_letter
letter-append [] y = refl
letter-append (b ∷ x) y = rw (letter-append x y) (sym (or_assoc (not (eqb b 45)) (has_letter x) (has_letter y)))

after-pair : (buffer : List ℕ) → has_letter (buffer ++ 45 ∷ 45 ∷ []) ≡ has_letter buffer
unfolding has_letter
after-pair buffer = letter-append buffer (45 ∷ 45 ∷ []) ∙ or-false (has_letter buffer)

after-letter : (buffer : List ℕ) (b : Bool) (u : ℕ) → eqb u 45 ≡ false → has_letter (buffer ++ switch_if b (u ∷ [])) ≡ true
unfolding has_letter switch_if
after-letter buffer true u n = letter-append buffer (45 ∷ u ∷ []) ∙ rw n (or-true (has_letter buffer))
after-letter buffer false u n = letter-append buffer (u ∷ []) ∙ rw n (or-true (has_letter buffer))

switch-append : (buffer : List ℕ) (b : Bool) (x y : List ℕ) → (buffer ++ switch_if b x) ++ y ≡ buffer ++ switch_if b (x ++ y)
unfolding switch_if
switch-append buffer true x y = append_assoc buffer (45 ∷ x) y
switch-append buffer false x y = append_assoc buffer x y

-- a code, with an empty queue and with some bits in it
module _ (s : Style) (u : ℕ) (t rest : List ℕ) (c : Codes s u) (a : AllCodes s t) where
  code-empty : (buffer : List ℕ) → enqueue_code 0 0 (width_of s u) (code_of s u) buffer (flush s (width_of s u % 5) (code_of s u % 2 ^ (width_of s u % 5)) t rest)
      ≡ buffer ++ code_quintets s 0 (width_of s u) (code_of s u) t rest
  unfolding enqueue_code
  code-empty buffer = ap (λ (x : List ℕ). buffer ++ x) (sym (left_over s 0 (width_of s u) (code_of s u) t rest (omega arith) a ∙ rw (sub-zero, mod-eq_of_lt c.fits)))

  code-bits : (buffer : List ℕ) (n v : ℕ) → 1 ≤ n → n ≤ 4
      → enqueue_code n v (width_of s u) (code_of s u) buffer (flush s ((n + width_of s u) % 5) ((v * 2 ^ width_of s u + code_of s u) % 2 ^ ((n + width_of s u) % 5)) t rest)
      ≡ (v * 2 ^ (5 - n) + code_of s u / 2 ^ (width_of s u - (5 - n))) ∷ buffer ++ code_quintets s (5 - n) (width_of s u) (code_of s u) t rest
  unfolding enqueue_code
  code-bits buffer n v h g =
      let w = c.wide in
      let p : n + width_of s u - 5 ≡ width_of s u - (5 - n) = omega arith in
      let q : (n + width_of s u) % 5 ≡ (width_of s u - (5 - n)) % 5 = omega arith in
      let d : width_of s u - (width_of s u - (5 - n)) ≡ 5 - n = omega arith in
      rw (
        ne_eqb n 0 (λ z. omega arith),
        p,
        q,
        upper-bits v (width_of s u) (code_of s u) (width_of s u - (5 - n)) (omega arith),
        d,
        lower-bits v (width_of s u) (code_of s u) (width_of s u - (5 - n)) (omega arith),
        lower-bits v (width_of s u) (code_of s u) ((width_of s u - (5 - n)) % 5) (omega arith),
        left_over s (5 - n) (width_of s u) (code_of s u) t rest (omega arith) a,
      )

  -- either way
  code_out : (buffer : List ℕ) (n v : ℕ) (switch : Bool) → n ≤ 4 → v < 2 ^ n
      → enqueue_code n v (width_of s u) (code_of s u) (buffer ++ switch_if switch []) (flush s ((n + width_of s u) % 5) ((v * 2 ^ width_of s u + code_of s u) % 2 ^ ((n + width_of s u) % 5)) t rest)
      ≡ pick (eqb n 0) (buffer ++ switch_if switch (code_quintets s (room n) (width_of s u) (code_of s u) t rest))
      ((v * 2 ^ (5 - n) + code_of s u / 2 ^ (width_of s u - (5 - n))) ∷ buffer ++ switch_if switch (code_quintets s (room n) (width_of s u) (code_of s u) t rest))
  unfolding room
  code_out buffer n v switch h b =
      cases (eqb n 0)
      (λ e.
      let z : n ≡ 0 = eqb-true n 0 e in
      let y : v ≡ 0 = omega (arith, ap (λ (i : ℕ). 2 ^ i) z) in
      rw (e, z, y, zero-add, zero-mul, zero-add) (code-empty (buffer ++ switch_if switch []) ∙ switch-append buffer switch [] _))
      (λ e.
      let z : n ≡ 0 → ⊥ = eqb-false n 0 e in
      rw e (code-bits (buffer ++ switch_if switch []) n v (omega arith) h ∙ rw (switch-append buffer switch [])))

-- how many bits are out after a code
room_after : (n w : ℕ) → n ≤ 4 → 5 ≤ w → spare_count (room n) w ≡ room ((n + w) % 5)
unfolding room
room_after n w h g =
    cases (eqb n 0)
    (λ e. let z : n ≡ 0 = eqb-true n 0 e in rw e (spare 0 (omega arith) (omega arith)))
    (λ e. let z : n ≡ 0 → ⊥ = eqb-false n 0 e in rw e (spare (5 - n) (omega arith) (omega arith)))
  where
    spare : (k : ℕ) → k ≤ 4 → (w - k) % 5 ≡ (n + w) % 5 → spare_count k w ≡ pick {A = ℕ} (eqb ((n + w) % 5) 0) 0 (5 - (n + w) % 5)
    spare k few e = spare-is k w ((n + w) % 5) (omega arith) e

-- the units in order, from any queue and buffer
draft-from : (s : Style) (t : List ℕ) → AllCodes s t → (n v : ℕ) (buffer : List ℕ) → n ≤ 4 → v < 2 ^ n
    → draft_from s n v buffer t ≡ flush s n v t (buffer ++ symbols_from s (has_letter buffer) (room n) t)
unfolding draft_from has_letter flush symbols_from unit_symbols copying_after out_after ahead AllCodes unit_out bits_after value_after buffer_after
draft-from s [] a n v buffer h b = rw (append-nil buffer, add-zero)
draft-from s (u ∷ t) a n v buffer h b =
    cases (eqb u 45)
    (λ e.
    let l : is_ldh u ≡ true = rw (eqb-true u 45 e) hyphen-ldh in
    rw (e, l) (draft-from s t a.1 n v (buffer ++ 45 ∷ 45 ∷ []) h b
    ∙ rw (after-pair buffer, append_assoc buffer (45 ∷ 45 ∷ []))))
    (λ e. cases (is_ldh u)
    (λ l. rw (e, l) (draft-from s t a.1 n v (buffer ++ switch_if (not (has_letter buffer)) (u ∷ [])) h b
    ∙ rw (after-letter buffer (not (has_letter buffer)) u e, switch-append buffer (not (has_letter buffer)) (u ∷ []))))
    (λ l.
    let c = a.0 l in
    let r = room_after n (width_of s u) h c.wide in
    let ih = draft-from s t a.1 ((n + width_of s u) % 5) _ [] (omega arith) (mod-lt (v * 2 ^ width_of s u + code_of s u) (pow_pos ((n + width_of s u) % 5))) in
    rw (e, l, ih, r) (code_out s u t _ c a.1 buffer n v (has_letter buffer) h b)))

head-fits : (s : Style) → RowFits s → head_value s < 2 ^ head_width s
unfolding RowFits head_value head_width
head-fits (HalfRow h) f = omega arith
head-fits (Row r) f = omega arith
head-fits (Mixed h) f = omega arith
head-fits NoRow f = omega arith

-- the whole procedure
draft-body : (s : Style) (t : List ℕ) → RowFits s → AllCodes s t → draft_body s t ≡ body_of s t
unfolding draft_body body_of has_letter room
draft-body s t f a =
    let w = head_width s in
    let sp : spare_count 0 w ≡ pick {A = ℕ} (eqb (w % 5) 0) 0 (5 - w % 5) = spare-is 0 w (w % 5) (omega arith) (ap (λ (i : ℕ). i % 5) (sub-zero w)) in
    rw (draft-from s t a (w % 5) (head_value s % 2 ^ (w % 5)) [] (omega arith) (mod-lt (head_value s) (pow_pos (w % 5))), sp)
    (sym (left_over s 0 w (head_value s) t _ (omega arith) a ∙ rw (sub-zero, mod-eq_of_lt (head-fits s f))))

-- the symbols of a text, before the signature, are those of the draft's procedure
pub procedure-is : (t : List ℕ) → AllBelow 65536 t → draft_body (style_of t) t ≡ body_of (style_of t) t
procedure-is t b = draft-body (style_of t) t (style-fits t b) (text-suits t b)
