-- Laws on a row that is put together in a buffer as far as 253 elements, and of which beyond that only the count is kept, as 254.
use Prim.Native.Nat.{ℕ, ◌+◌, ◌≤◌, ◌<◌}
use mathlib.Core.Path.{◌≡◌, refl, sym, ap, ◌∙◌}
use mathlib.Core.List.{List, [], ◌++◌}
use lib.ListN.{length, take, drop, length-append}
use lib.Seq.{sets}
use borrow.Author.Tests.{lt-ltb, le-ltb}
use native.Mathlib.Omega.{arith}
use Rattle.basis.proofs.Tests.{by-lt}
use Rattle.basis.proofs.Parts.{front-is}
use Rattle.basis.proofs.Stores.{Storing, storing-all, storing-more, storing-none}
use Rattle.host_name.specs.Internal.{capped}

pub capped-over : (count : ℕ) → 253 < count → capped count ≡ 254
unfolding capped
capped-over count h = rw (lt-ltb 253 count h)

pub capped-within : (count : ℕ) → count ≤ 253 → capped count ≡ count
unfolding capped
capped-within count h = rw (le-ltb 253 count h)

pub capped-kept : (count : ℕ) → count ≤ 254 → capped count ≡ count
capped-kept count low = by-lt 253 count (λ h. capped-over count h ∙ omega (arith, h, low)) (λ h. capped-within count h)

-- of the values, those left are still to be stored from the index at on; or all of them are more than 253
pub data Placing (values old now : List ℕ) (at : ℕ) (left : List ℕ) : Type 0 where
  fits : at ≤ 253 → Storing old values now at left → Placing values old now at left
  over : at ≡ 254 → 253 < length values → Placing values old now at left

pub placing-all : (old values : List ℕ) → Placing values old old 0 values
placing-all old values = fits (omega arith) (storing-all old values)

pub placing-low : {values old now : List ℕ} {at : ℕ} {left : List ℕ} → Placing values old now at left → at ≤ 254
placing-low (fits low s) = omega arith
placing-low (over is long) = omega arith

-- one piece more
pub placing-more : {values old now : List ℕ} {at : ℕ} {left : List ℕ} → Placing values old now at left
    → (piece rest : List ℕ) → left ≡ piece ++ rest → (later : List ℕ) (next : ℕ) → later ≡ sets now at piece → next ≡ capped (at + length piece)
    → Placing values old later next rest
placing-more {values} {old} {now} {at} {left} (fits low s) piece rest e later next m is =
    let n : length left ≡ length piece + length rest = ap length e ∙ length-append piece rest in
    by-lt 253 (at + length piece)
    (λ h. over (is ∙ capped-over (at + length piece) h) (omega (arith, s.count)))
    (λ h. let i : next ≡ at + length piece = is ∙ capped-within (at + length piece) h in fits (omega arith) (storing-more old values now at left s piece rest e later next m i))
placing-more {values} {old} {now} {at} {left} (over a long) piece rest e later next m is = over (is ∙ capped-over (at + length piece) (omega arith)) long

-- with none left, the index is the count of all, and, if that is at most 253, all are in the buffer
pub placing-none : {values old now : List ℕ} {at : ℕ} → Placing values old now at [] → 253 ≤ length old → (at ≡ capped (length values)) × (at ≤ 253 → take at now ≡ values)
placing-none {values} {old} {now} {at} (fits low s) room =
    let n : at ≡ length values = omega (arith, s.count) in
    (n ∙ sym (capped-within (length values) (omega arith)), λ h. front-is at values (drop (length values) old) now n (storing-none old values now at [] s refl (omega arith)).1)
placing-none {values} {old} {now} {at} (over is long) room = (is ∙ sym (capped-over (length values) long), λ h. absurd (omega arith))
