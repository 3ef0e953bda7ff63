-- What reading does at each kind of symbol, whichever of its bytes is there.
use Prim.Native.Nat.{ℕ, ◌+◌, ◌-◌, ◌*◌, ◌/◌, ◌%◌, ◌^◌, ◌≤◌, ◌<◌}
use mathlib.Core.Path.{◌≡◌, refl, ap, ◌∙◌}
use mathlib.Core.Bool.{true, false}
use mathlib.Core.List.{List, [], ◌∷◌}
use lib.Dec.{eqb, leb}
use borrow.Author.Tests.{le-leb, lt-leb}
use native.Mathlib.Omega.{arith}
use Rattle.basis.specs.Tests.{pick, both}
use Rattle.basis.proofs.Tests.{both_left, both_right, true-not-false}
use Rattle.alphabet.specs.Alphabet.{brace}
use Rattle.copying.specs.Symbols.{is_for, are_for}
use Rattle.copying.specs.declared.Mode.{Mode}
use Rattle.copying.specs.Modes.{after_hyphen, after_other, is_copied, is_coded, is_second, next_mode}
use Rattle.copying.proofs.Bytes.{coded-no-hyphen, coded-quintet, copied_is}
use Rattle.brace_format.specs.declared.style.Style.{Style}
use Rattle.brace_format.specs.Style.{unit_of}
use Rattle.brace_text.specs.Decoding.{due_width, is_whole, count_left, value_left, unit_taken, next_count, next_value, adds, text_from}
use Rattle.brace_facts.proofs.Alphabet.{brace-written}

-- every row of bytes that is read as the symbols gives the text, from this state on
abbrev pub Reads : Style → Mode → ℕ → ℕ → List ℕ → List ℕ → Type 0
Reads s m k v symbols t = (l : List ℕ) → are_for brace symbols l ≡ true → text_from s m k v l ≡ t

pub reads_none : (s : Style) (m : Mode) (k v : ℕ) → Reads s m k v [] []
unfolding are_for text_from
reads_none s m k v [] e = refl
reads_none s m k v (b ∷ l) e = absurd (true-not-false e refl)

module _ (s : Style) (m : Mode) (k v : ℕ) where
  -- what a byte does: the next mode and queue, and what it adds to the text
  abbrev Does : ℕ → Mode → ℕ → ℕ → (List ℕ → List ℕ) → Type 0
  Does b m' k' v' add = (next_mode m b ≡ m') × (next_count s m k v b ≡ k') × (next_value s m k v b ≡ v') × ((rest : List ℕ) → adds s m k v b rest ≡ add rest)

  -- one symbol, by what each of its bytes does
  reads_more : (x : ℕ) (m' : Mode) (k' v' : ℕ) (add : List ℕ → List ℕ) (symbols t : List ℕ)
      → ((b : ℕ) → is_for brace x b ≡ true → Does b m' k' v' add) → Reads s m' k' v' symbols t → Reads s m k v (x ∷ symbols) (add t)
  unfolding are_for text_from
  reads_more x m' k' v' add symbols t step r [] e = absurd (true-not-false e refl)
  reads_more x m' k' v' add symbols t step r (b ∷ l) e =
      let d = step b (both_left (is_for brace x b) (are_for brace symbols l) e) in
      d.3 _ ∙ ap add (rw (d.0, d.1, d.2) (r l (both_right (is_for brace x b) (are_for brace symbols l) e)))

  hyphen-does : (b : ℕ) → is_for brace 45 b ≡ true → Does b (after_hyphen m) k v (λ rest. pick (is_second m) (45 ∷ rest) rest)
  unfolding next_mode next_count next_value adds is_coded both
  hyphen-does b e = rw (copied_is brace 45 b (omega arith) e) (refl, refl, refl, λ rest. refl)

  -- a hyphen
  pub reads-hyphen : (symbols t : List ℕ) → Reads s (after_hyphen m) k v symbols t → Reads s m k v (45 ∷ symbols) (pick (is_second m) (45 ∷ t) t)
  reads-hyphen symbols t = reads_more 45 (after_hyphen m) k v (λ rest. pick (is_second m) (45 ∷ rest) rest) symbols t hyphen-does

  copied-does : (x : ℕ) → 45 ≤ x → eqb x 45 ≡ false → is_copied m ≡ true → (b : ℕ) → is_for brace x b ≡ true → Does b (after_other m) k v (λ rest. x ∷ rest)
  unfolding next_mode next_count next_value adds is_coded both
  copied-does x h n c b e = rw (copied_is brace x b (omega arith) e, n, c) (refl, refl, refl, λ rest. refl)

  -- a letter or digit that is copied
  pub reads-copied : (x : ℕ) (symbols t : List ℕ) → 45 ≤ x → eqb x 45 ≡ false → is_copied m ≡ true → Reads s (after_other m) k v symbols t → Reads s m k v (x ∷ symbols) (x ∷ t)
  reads-copied x symbols t h n c = reads_more x (after_other m) k v (λ rest. x ∷ rest) symbols t (copied-does x h n c)

  module _ (x v' : ℕ) (h : x < 32) (c : is_copied m ≡ false) (is : v * 32 + x ≡ v') where
    quintet-does : (b : ℕ) → is_for brace x b ≡ true → Does b (after_other m) (count_left s (k + 5) v') (value_left s (k + 5) v') (unit_taken s (k + 5) v')
    unfolding next_mode next_count next_value adds is_coded both
    quintet-does b e = rw (coded-no-hyphen brace x b h e brace-written.test, c, coded-quintet brace x b h e, is) (refl, refl, refl, λ rest. refl)

    -- a quintet that ends no code
    pub reads-part : (symbols t : List ℕ) → k + 5 < due_width s (k + 5) v' → Reads s (after_other m) (k + 5) v' symbols t → Reads s m k v (x ∷ symbols) t
    unfolding count_left value_left unit_taken is_whole
    reads-part symbols t less r =
        rw (lt-leb (due_width s (k + 5) v') (k + 5) less) at (reads_more x (after_other m) _ _ _ symbols t quintet-does)
        r

    last-does : (w spare : ℕ) → due_width s (k + 5) v' ≡ w → k + 5 ≡ w + spare → (b : ℕ) → is_for brace x b ≡ true
        → Does b (after_other m) spare (v' % 2 ^ spare) (λ rest. unit_of s (v' / 2 ^ spare) ∷ rest)
    unfolding count_left value_left unit_taken is_whole
    last-does w spare d e b f =
        let q : k + 5 - w ≡ spare = omega arith in
        let l : leb w (k + 5) ≡ true = le-leb w (k + 5) (omega arith) in
        rw (d, l, q) at (quintet-does b f)

    -- a quintet that ends a code, with spare bits after it
    pub reads-last : (symbols t : List ℕ) (w spare : ℕ) → due_width s (k + 5) v' ≡ w → k + 5 ≡ w + spare
        → Reads s (after_other m) spare (v' % 2 ^ spare) symbols t → Reads s m k v (x ∷ symbols) (unit_of s (v' / 2 ^ spare) ∷ t)
    reads-last symbols t w spare d e =
        reads_more x (after_other m) spare (v' % 2 ^ spare) (λ rest. unit_of s (v' / 2 ^ spare) ∷ rest) symbols t (last-does w spare d e)
