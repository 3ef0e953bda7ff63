-- Laws on parts of a buffer: what the callee was passed, and what the whole holds after it.
use Prim.Native.Nat.{ℕ, ◌+◌, ◌-◌, ◌≤◌}
use mathlib.Core.Path.{◌≡◌, sym, ap, ap₂, ◌∙◌}
use mathlib.Core.List.{List, ◌++◌, append-nil, append_assoc}
use lib.ListN.{length, take, drop, length-append, length-drop, drop_of_length-le}
use lib.Seq.{take_all, take_at, drop_at, drop-drop}
use native.Mathlib.Omega.{arith}

-- the part from index k on, as it is passed and as it is put back
pub part-is : (k : ℕ) (l : List ℕ) → take (length l - k) (drop k l) ≡ drop k l
part-is k l = take_all (length l - k) (drop k l) (omega (arith, length-drop k l))

pub part-back : (k : ℕ) (l part : List ℕ) → take k l ++ (part ++ drop (length l - k) (drop k l)) ≡ take k l ++ part
part-back k l part =
    let h : length (drop k l) ≤ length l - k = omega (arith, length-drop k l) in
    ap (λ (x : List ℕ). take k l ++ (part ++ x)) (drop_of_length-le (drop k l) h) ∙ ap (λ (x : List ℕ). take k l ++ x) (append-nil part)

-- a buffer whose part after the values in front is passed on
module _ (k : ℕ) (front rest now : List ℕ) (long : length front ≡ k) (is : now ≡ front ++ rest) where
  pub rest-is : take (length now - k) (drop k now) ≡ rest
  rest-is = part-is k now ∙ ap (drop k) is ∙ drop_at front rest k long

  -- what the callee made of its part, said of the whole
  pub rest_back : (part : List ℕ) (made : List ℕ → List ℕ) → part ≡ made (take (length now - k) (drop k now))
      → take k now ++ (part ++ drop (length now - k) (drop k now)) ≡ front ++ made rest
  rest_back part made e = part-back k now part ∙ ap₂ ◌++◌ (ap (take k) is ∙ take_at front rest k long) (e ∙ ap made rest-is)

-- a buffer whose front was stored first, and whose rest was passed on to be filled from its front
pub rest-filled : (k n : ℕ) (front values old now : List ℕ) → length front ≡ k → now ≡ front ++ drop k old
    → (part : List ℕ) → part ≡ values ++ drop n (take (length now - k) (drop k now))
    → take k now ++ (part ++ drop (length now - k) (drop k now)) ≡ (front ++ values) ++ drop (k + n) old
rest-filled k n front values old now long is part e =
    rest_back k front (drop k old) now long is part (λ (l : List ℕ). values ++ drop n l) e
    ∙ ap (λ (l : List ℕ). front ++ (values ++ l)) (drop-drop n k old)
    ∙ sym (append_assoc front values (drop (k + n) old))

-- a buffer whose first n elements, the values in front, are passed on
module _ (n : ℕ) (front rest now : List ℕ) (count : n ≡ length front) (is : now ≡ front ++ rest) where
  pub front-is : take n now ≡ front
  front-is = ap (take n) is ∙ take_at front rest n (sym count)

  pub front_fits : n ≤ length now
  front_fits = omega (arith, ap length is, length-append front rest)

  pub front_long : n ≡ length (take n now)
  front_long = count ∙ sym (ap length front-is)
