-- The windows that the code looks at: a quintet out of two octets, an octet out of three quintets.
use Prim.Native.Nat.{ℕ, ◌+◌, ◌-◌, ◌*◌, ◌/◌, ◌%◌, ◌^◌, ◌<◌}
use mathlib.Core.Path.{◌≡◌, sym, ap, ◌∙◌}
use native.Mathlib.Nat.{add-zero}
use native.Mathlib.Omega.{arith}
use Rattle.base32.specs.Bits.{regroup}
use Rattle.base32.proofs.Bits.{window, regroup-window}

pub quintet-window : (row : ℕ → ℕ) (i x y : ℕ) → ((k : ℕ) → row k < 256) → x ≡ row (i / 8 * 5 + i % 8 * 5 / 8) → y ≡ row (i / 8 * 5 + i % 8 * 5 / 8 + 1) → (x * 256 + y) / 2 ^ (11 - i % 8 * 5 % 8) % 32 ≡ regroup 8 5 row i
unfolding window
quintet-window row i x y h e g =
    let q : i / 8 * 5 + i % 8 * 5 / 8 ≡ 5 * i / 8 = omega arith in
    let n : window 8 2 row (5 * i / 8) ≡ x * 256 + y = rw (add-zero, ← q) (omega arith) in
    sym (regroup-window 8 5 2 row i (11 - i % 8 * 5 % 8) h (omega arith) ∙ ap (λ (k : ℕ). k / 2 ^ (11 - i % 8 * 5 % 8) % 32) n)

pub octet-window : (row : ℕ → ℕ) (i x y z : ℕ) → ((k : ℕ) → row k < 32) → x ≡ row (i / 5 * 8 + i % 5 * 8 / 5) → y ≡ row (i / 5 * 8 + i % 5 * 8 / 5 + 1) → z ≡ row (i / 5 * 8 + i % 5 * 8 / 5 + 2) → (x * 1024 + y * 32 + z) / 2 ^ (7 - i % 5 * 8 % 5) % 256 ≡ regroup 5 8 row i
unfolding window
octet-window row i x y z h e g f =
    let q : i / 5 * 8 + i % 5 * 8 / 5 ≡ 8 * i / 5 = omega arith in
    let n : window 5 3 row (8 * i / 5) ≡ x * 1024 + y * 32 + z = rw (add-zero, ← q) (omega arith) in
    sym (regroup-window 5 8 3 row i (7 - i % 5 * 8 % 5) h (omega arith) ∙ ap (λ (k : ℕ). k / 2 ^ (7 - i % 5 * 8 % 5) % 256) n)
