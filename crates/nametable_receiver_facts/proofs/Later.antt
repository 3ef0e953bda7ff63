-- What any bytes leave as it was: a header that has come, a refusal, and a state that counts no
-- further; and how far they are counted.
use Prim.Native.Nat.{ℕ, suc, ◌+◌, ◌≤◌, ◌<◌}
use mathlib.Core.Path.{◌≡◌, refl, ◌∙◌}
use mathlib.Core.List.{List, [], ◌∷◌}
use lib.ListN.{length}
use native.Mathlib.Omega.{arith}
use Rattle.basis.specs.Outcome.{refused, and_then}
use Rattle.basis.proofs.Tests.{by-lt}
use Rattle.nametable_format.specs.Format.{header_length}
use Rattle.nametable_receiver.specs.Receiving.{State, most_bytes, last_index, headed, stored, judged_with, with_entry, ended, stepped, received}
use Rattle.nametable_receiver.proofs.StepLaws.{stepped-past, stepped-header, stepped-stored, stepped-ended}

-- what one byte makes of a state is one of four
by-step : (P : State → Type 0) (s : State) (b : ℕ) → (most_bytes ≤ s.total → P s) → (s.total < header_length → P (headed s b)) → P (stored s b) → P (ended s b) → P (stepped s b)
by-step P s b past heads stores ends =
    by-lt s.total most_bytes
    (λ few. by-lt s.total header_length
    (λ short. rw (stepped-header s b short) (heads short))
    (λ long. by-lt s.filled last_index (λ more. rw (stepped-stored s b long few more) stores) (λ last. rw (stepped-ended s b long few last) ends)))
    (λ full. rw (stepped-past s b full) (past full))

-- past the most bytes none changes anything
pub received-past : (s : State) (chunk : List ℕ) → most_bytes ≤ s.total → received s chunk ≡ s
unfolding received
received-past s [] h = refl
received-past s (b ∷ bs) h = rw (stepped-past s b h) (received-past s bs h)

-- up to them each is counted
stepped-counts : (s : State) (b : ℕ) → s.total < most_bytes → (stepped s b).total ≡ suc s.total
unfolding headed stored ended with_entry
stepped-counts s b few = by-step (λ t. t.total ≡ suc s.total) s b (λ h. absurd (omega arith)) (λ _. refl) refl refl

pub received-counts : (s : State) (chunk : List ℕ) → s.total + length chunk ≤ most_bytes → (received s chunk).total ≡ s.total + length chunk
unfolding received
received-counts s [] h = omega arith
received-counts s (b ∷ bs) h =
    let one = stepped-counts s b (omega arith) in
    received-counts (stepped s b) bs (omega (arith, one)) ∙ omega (arith, one)

pub received-full : (s : State) (chunk : List ℕ) → s.total ≤ most_bytes → most_bytes ≤ s.total + length chunk → (received s chunk).total ≡ most_bytes
unfolding received
received-full s [] few h = omega arith
received-full s (b ∷ bs) few h =
    by-lt s.total most_bytes
    (λ l. let one = stepped-counts s b l in received-full (stepped s b) bs (omega (arith, one)) (omega (arith, one)))
    (λ g. rw (stepped-past s b g, received-past s bs g) (omega arith))

-- past the header it is kept
stepped-keeps-header : (s : State) (b : ℕ) → header_length ≤ s.total → (header_length ≤ (stepped s b).total) × ((stepped s b).header ≡ s.header)
unfolding stored ended with_entry
stepped-keeps-header s b long =
    by-step (λ t. (header_length ≤ t.total) × (t.header ≡ s.header)) s b (λ _. (long, refl)) (λ h. absurd (omega arith)) (omega arith, refl)
    (omega arith, refl)

pub received-keeps-header : (s : State) (chunk : List ℕ) → header_length ≤ s.total → (header_length ≤ (received s chunk).total) × ((received s chunk).header ≡ s.header)
unfolding received
received-keeps-header s [] long = (long, refl)
received-keeps-header s (b ∷ bs) long =
    let one = stepped-keeps-header s b long in
    let rest = received-keeps-header (stepped s b) bs one.0 in
    (rest.0, rest.1 ∙ one.1)

-- a refusal is kept
stepped-keeps-refusal : (s : State) (b number position : ℕ) → s.judged ≡ refused number position → (stepped s b).judged ≡ refused number position
unfolding headed stored ended with_entry judged_with and_then
stepped-keeps-refusal s b number position e = by-step (λ t. t.judged ≡ refused number position) s b (λ _. e) (λ _. e) e (rw e)

pub refusal-kept-on : (s : State) (chunk : List ℕ) (number position : ℕ) → s.judged ≡ refused number position → (received s chunk).judged ≡ refused number position
unfolding received
refusal-kept-on s [] number position e = e
refusal-kept-on s (b ∷ bs) number position e = refusal-kept-on (stepped s b) bs number position (stepped-keeps-refusal s b number position e)
