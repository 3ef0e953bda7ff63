-- Reading a label: when a symbol stops the row, the state after one that does not, and the turns of the two loops.
use Prim.Native.Nat.{ℕ, ◌+◌, ◌-◌, ◌*◌, ◌^◌, ◌<◌, ◌≤◌}
use mathlib.Core.Path.{◌≡◌, refl, sym, ap, subst, ◌∙◌}
use mathlib.Core.Bool.{Bool, true, false, not}
use mathlib.Core.List.{List, [], ◌∷◌, ◌++◌, map}
use native.Mathlib.Nat.{not-le_of_lt}
use native.Mathlib.Numerals.{add-one}
use native.Mathlib.Omega.{arith}
use lib.Bits.{bit_xor}
use lib.Dec.{eqb, ltb}
use lib.ListN.{length, get_or, drop, length-append, length-map, drop_of_length-le}
use lib.Seq.{drop-cons}
use borrow.Author.Tests.{lt-ltb, le-ltb, eq-eqb, ne_eqb, eqb-true, eqb-false, not-true, not-false}
use Rattle.std.proofs.Common.{Option, None, Some}
use Rattle.basis.specs.Tests.{both}
use Rattle.basis.proofs.Tests.{cases, by-lt, both_false}
use Rattle.basis.proofs.Stores.{Storing, Stored, storing-all, storing-piece, storing-none}
use Rattle.utf16.specs.Points.{is_point}
use Rattle.utf16.proofs.Surrogates.{point-top}
use Rattle.alphabet.specs.Alphabet.{altdude, value_of}
use Rattle.alphabet.proofs.Inverse.{value-le, altdude-alphabet}
use Rattle.altdude.specs.Symbols.{symbol_of}
use Rattle.altdude.specs.Decoding.{follows, next_remembered, next_pending, adds, is_readable, text_from, text_of}
use Rattle.altdude.specs.Internal.{Small, Goes, Stops, StepMeans, adds_after}
use Rattle.altdude.specs.declared.decoding.State.{State}
use Rattle.altdude.proofs.Xor.{xor_large}
use Rattle.altdude.proofs.Steps.{follows-low, remembered-low, pending-low, follows-high, remembered-high, pending-high, readable-low, readable-high, readable-hyphen}

-- bytes and symbols

symbol-le : (byte : ℕ) → symbol_of byte ≤ 45
unfolding symbol_of
symbol-le byte = cases (eqb byte 45) (λ e. rw e (omega arith)) (λ e. rw e (omega (arith, value-le altdude altdude-alphabet byte)))

pub symbol-small : (byte symbol : ℕ) → symbol ≡ symbol_of byte → symbol ≤ 45
symbol-small byte symbol e = rw e (symbol-le byte)

pub symbol-hyphen : (byte : ℕ) → byte ≡ 45 → 45 ≡ symbol_of byte
unfolding symbol_of
symbol-hyphen byte e = rw (eq-eqb _ _ e)

pub symbol-value : (byte value : ℕ) → (byte ≡ 45 → ⊥) → value ≡ value_of altdude byte → value ≡ symbol_of byte
unfolding symbol_of
symbol-value byte value n e = rw (ne_eqb _ _ n) e

-- large values

point-small : (p : ℕ) → is_point p ≡ true → p < 2 ^ 21
point-small p e = omega (arith, point-top p e)

large-no-point : (m x : ℕ) → m < 2 ^ 21 → 2 ^ 21 ≤ x → is_point (bit_xor m x) ≡ false
large-no-point m x hm hx =
    cases (is_point (bit_xor m x))
    (λ e. absurd (not-le_of_lt (xor_large 21 m x hm (point-small _ e)) hx))
    (λ e. e)

-- a group whose value has more than 21 bits never becomes a point
large-stops : (m v : ℕ) (l : List ℕ) → m < 2 ^ 21 → 2 ^ 21 ≤ v → is_readable m v l ≡ false
unfolding is_readable both
large-stops m v [] hm hv = ne_eqb v 0 (λ e. omega arith)
large-stops m v (s ∷ l) hm hv =
    by-lt s 16
    (λ low. readable-low m v s l low ∙ rw (large-no-point m (v * 16 + s) hm (omega arith)))
    (λ high. cases (eqb s 45)
    (λ y. rw (eqb-true s 45 y) (readable-hyphen m v l ∙ rw (ne_eqb v 0 (λ q. omega arith))))
    (λ n. readable-high m v s l high (eqb-false s 45 n) ∙ rw (large-stops m (v * 16 + (s - 16)) l hm (omega arith), both_false)))

-- one symbol

module _ (state : State) (s : ℕ) where
  -- the last of a group
  module _ (low : s < 16) where
    pub stop-no-point : (t : Bool) → t ≡ is_point (bit_xor state.remembered (state.pending * 16 + s)) → not t ≡ true → Stops state s
    unfolding both
    stop-no-point t e n l = readable-low state.remembered state.pending s l low ∙ rw (← e, not-true t n)

    pub stop-point-45 : bit_xor state.remembered (state.pending * 16 + s) ≡ 45 → Stops state s
    unfolding both
    stop-point-45 e l = readable-low state.remembered state.pending s l low ∙ rw (eq-eqb _ 45 e, both_false)

    pub goes_last : (t : Bool) → t ≡ is_point (bit_xor state.remembered (state.pending * 16 + s)) → not t ≡ false → (bit_xor state.remembered (state.pending * 16 + s) ≡ 45 → ⊥)
        → Goes state s (record { remembered = bit_xor state.remembered (state.pending * 16 + s); pending = 0 })
    unfolding both
    goes_last t e n h = record {
      may = follows-low state.remembered state.pending s low ∙ rw (← e, not-false t n, ne_eqb _ 45 h);
      remembered_is = sym (remembered-low state.remembered state.pending s low);
      pending_is = sym (pending-low state.remembered state.pending s low);
      small = record { remembered = point-small _ (sym e ∙ not-false t n); pending = omega arith };
    }

  -- a hyphen
  module _ (hyphen : s ≡ 45) where
    pub stop-open : (state.pending ≡ 0 → ⊥) → Stops state s
    unfolding both
    stop-open n l = rw hyphen (readable-hyphen state.remembered state.pending l ∙ rw (ne_eqb state.pending 0 n))

    pub goes-hyphen : Small state → state.pending ≡ 0 → Goes state s state
    unfolding follows next_remembered next_pending
    goes-hyphen small z = rw hyphen (record { may = rw z; remembered_is = refl; pending_is = z; small = small })

  -- any other
  module _ (high : 16 ≤ s) (no : s ≡ 45 → ⊥) where
    pub stop-foreign : 31 < s → Stops state s
    unfolding both
    stop-foreign h l = readable-high state.remembered state.pending s l high no ∙ rw (le-ltb s 32 h)

    pub stop-zero : state.pending * 16 + (s - 16) ≡ 0 → Stops state s
    unfolding both
    stop-zero h l = readable-high state.remembered state.pending s l high no ∙ rw (eq-eqb _ 0 h, both_false)

    pub stop-large : Small state → 0x1f_ffff < state.pending * 16 + (s - 16) → Stops state s
    stop-large small h l = readable-high state.remembered state.pending s l high no ∙ rw (large-stops state.remembered (state.pending * 16 + (s - 16)) l small.remembered h, both_false)

    pub goes-leading : Small state → s ≤ 31 → (state.pending * 16 + (s - 16) ≡ 0 → ⊥) → state.pending * 16 + (s - 16) ≤ 0x1f_ffff → Goes state s (record { remembered = state.remembered; pending = state.pending * 16 + (s - 16) })
    unfolding both
    goes-leading small h n w = record {
      may = follows-high state.remembered state.pending s high no ∙ rw (lt-ltb s 32 (omega arith), ne_eqb _ 0 n);
      remembered_is = sym (remembered-high state.remembered state.pending s high no);
      pending_is = sym (pending-high state.remembered state.pending s high no);
      small = record { remembered = small.remembered; pending = omega arith };
    }

-- what a symbol adds

adds-is : (m v s : ℕ) (rest : List ℕ) → adds m v s rest ≡ adds_after s (next_remembered m v s) ++ rest
unfolding adds adds_after next_remembered
adds-is m v s rest = cases (ltb s 16) (λ e. rw e) (λ e. cases (eqb s 45) (λ y. rw (e, y)) (λ n. rw (e, n)))

module _ (s m : ℕ) where
  pub adds-last : s < 16 → adds_after s m ≡ m ∷ []
  unfolding adds_after
  adds-last h = rw (lt-ltb s 16 h)

  pub adds-hyphen : 16 ≤ s → s ≡ 45 → adds_after s m ≡ 45 ∷ []
  unfolding adds_after
  adds-hyphen h e = rw (le-ltb s 16 h, eq-eqb s 45 e)

  pub adds-nothing : 16 ≤ s → (s ≡ 45 → ⊥) → adds_after s m ≡ []
  unfolding adds_after
  adds-nothing h n = rw (le-ltb s 16 h, ne_eqb s 45 n)

  adds-le : length (adds_after s m) ≤ 1
  adds-le =
      by-lt s 16
      (λ h. rw (adds-last h) (omega arith))
      (λ h. cases (eqb s 45) (λ y. rw (adds-hyphen h (eqb-true s 45 y)) (omega arith)) (λ n. rw (adds-nothing h (eqb-false s 45 n)) (omega arith)))

-- a text has at most as many points as its label has symbols
text-le : (m v : ℕ) (l : List ℕ) → length (text_from m v l) ≤ length l
unfolding text_from
text-le m v [] = omega arith
text-le m v (s ∷ l) =
    rw (adds-is, length-append)
    (omega (arith, adds-le s (next_remembered m v s), text-le (next_remembered m v s) (next_pending v s) l))

pub text-fits : (l : List ℕ) → length (text_of l) ≤ length l
unfolding text_of
text-fits l = omega (arith, text-le 96 0 (map symbol_of l), length-map l symbol_of)

-- the loops over a label

symbols-here : (l : List ℕ) (i : ℕ) → i < length l → map symbol_of (drop i l) ≡ symbol_of (get_or l i 0) ∷ map symbol_of (drop (i + 1) l)
symbols-here l i h = rw (drop-cons l i 0, add-one)

symbols-end : (l : List ℕ) (i : ℕ) → length l ≤ i → map symbol_of (drop i l) ≡ []
symbols-end l i h = rw drop_of_length-le

-- what the storing loop keeps besides: what is left of the text is still to be stored, from an index that is not ahead
pub record Putting (l old text : List ℕ) (state : State) (at i : ℕ) : Type 0 where
  pub storing : Storing old (text_of l) text at (text_from state.remembered state.pending (map symbol_of (drop i l)))
  pub behind : at ≤ i

-- what a loop keeps: what is left can be read from the state exactly when the whole can
pub record Reading (l : List ℕ) (all : Bool) (state : State) (i : ℕ) : Type 0 where
  pub left : all ≡ is_readable state.remembered state.pending (map symbol_of (drop i l))
  pub small : Small state

pub putting-start : (l text : List ℕ) → Putting l text text (record { remembered = 96; pending = 0 }) 0 0
unfolding text_of
putting-start l text = record { storing = storing-all text (text_of l); behind = omega arith }

pub reading-start : (l : List ℕ) (all : Bool) → all ≡ is_readable 96 0 (map symbol_of l) → Reading l all (record { remembered = 96; pending = 0 }) 0
reading-start l all e = record { left = e; small = record { remembered = omega arith; pending = omega arith } }

module _ (l : List ℕ) (all : Bool) (state : State) (i : ℕ) (reading : Reading l all state i) where
  pub reading-end : length l ≤ i → eqb state.pending 0 ≡ all
  unfolding is_readable
  reading-end h = sym (reading.left ∙ ap (is_readable state.remembered state.pending) (symbols-end l i h))

  -- a turn, by what the step gives
  module _ (h : i < length l) (s : ℕ) (es : s ≡ symbol_of (get_or l i 0)) (step : Option State) (means : StepMeans state s step) where
    left_here : all ≡ is_readable state.remembered state.pending (s ∷ map symbol_of (drop (i + 1) l))
    left_here = rw es (reading.left ∙ ap (is_readable state.remembered state.pending) (symbols-here l i h))

    pub reading-stop : step ≡ None → false ≡ all
    reading-stop e = sym (left_here ∙ subst (StepMeans state s) e means (map symbol_of (drop (i + 1) l)))

    module _ (next : State) (e : step ≡ Some next) where
      goes : Goes state s next
      goes = subst (StepMeans state s) e means

      pub reading-turn : Reading l all next (i + 1)
      unfolding is_readable both
      reading-turn = record { left = left_here ∙ rw (goes.may, ← goes.remembered_is, ← goes.pending_is); small = goes.small }

      text-here : text_from state.remembered state.pending (map symbol_of (drop i l))
          ≡ adds_after s next.remembered ++ text_from next.remembered next.pending (map symbol_of (drop (i + 1) l))
      unfolding text_from
      text-here = ap (text_from state.remembered state.pending) (symbols-here l i h) ∙ rw (← es, adds-is, ← goes.remembered_is, ← goes.pending_is)

      pub putting-turn : (old text : List ℕ) (at : ℕ) → Putting l old text state at i
          → {text' : List ℕ} {at' : ℕ} → Stored text at (adds_after s next.remembered) text' at'
          → Reading l all next (i + 1) × Putting l old text' next at' (i + 1)
      putting-turn old text at putting stored = (
        reading-turn,
        record {
          storing = storing-piece putting.storing text-here stored;
          behind = omega (arith, stored.count, adds-le s next.remembered, putting.behind);
        },
      )

pub putting-end : (l old text : List ℕ) (state : State) (at i : ℕ) → Putting l old text state at i → length l ≤ i → length l ≤ length old
    → (at ≡ length (text_of l)) × (text ≡ text_of l ++ drop (length (text_of l)) old)
unfolding text_from
putting-end l old text state at i putting h fits =
    storing-none _ _ _ _ _ putting.storing (ap (text_from state.remembered state.pending) (symbols-end l i h)) (omega (arith, text-fits l))
