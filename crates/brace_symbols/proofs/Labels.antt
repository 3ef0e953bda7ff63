-- The symbols of a text and its label, as they are stored, and what encoding answers.
use Prim.Native.Nat.{ℕ, ◌+◌, ◌≤◌, ◌<◌}
use mathlib.Core.Path.{◌≡◌, refl, sym, ap, ◌∙◌}
use mathlib.Core.Bool.{Bool, true, false, ◌||◌}
use mathlib.Core.List.{List, [], ◌++◌}
use lib.Dec.{ltb}
use lib.ListN.{length, take, drop, get_or, length-map}
use lib.Seq.{take_all}
use borrow.Author.Tests.{lt-ltb, le-ltb, ltb-false}
use native.Mathlib.Omega.{arith}
use Rattle.basis.specs.Outcome.{Outcome, done, refused, refused_if, buffer_after}
use Rattle.basis.proofs.Tests.{at_each, true-not-false}
use Rattle.basis.proofs.Lists.{at_map}
use Rattle.basis.proofs.Outcome.{stop-if, pass-if, stop-below, pass_below, stop-equal, pass-equal, stop-found, pass-found, passed, done-count, done-leaves, values-fit, values-long, values-are}
use Rattle.basis.proofs.Stores.{Stored, stored-append, storing-none}
use Rattle.utf16.specs.Units.{first_unpaired}
use Rattle.ascii.specs.Ldh.{is_ldh, is_all_ldh}
use Rattle.alphabet.specs.Alphabet.{brace}
use Rattle.copying.specs.Symbols.{byte_of, bytes_of, capital}
use Rattle.brace_format.specs.declared.style.Style.{Style}
use Rattle.brace_format.specs.Signature.{signature}
use Rattle.brace_format.specs.Style.{head_width, head_value}
use Rattle.brace_choice.specs.Choice.{style_of}
use Rattle.brace_symbols.specs.Encoding.{quintet_count, spare_count, code_quintets, symbols_from, body_of, is_plain, symbols_of, label_of}
use Rattle.brace_symbols.specs.Answer.{is_too_long, encode_outcome}
use Rattle.brace_symbols.proofs.Units.{ldh-byte, length-code, body_is, length-signed}
use Rattle.brace_symbols.proofs.Edges.{label-edges}

-- the bytes of symbols one by one
pub length-bytes : (symbols : List ℕ) → length (bytes_of brace capital symbols) ≡ length symbols
unfolding bytes_of
length-bytes symbols = length-map symbols (byte_of brace capital)

pub byte_at : (symbols : List ℕ) (i r : ℕ) → i < length symbols → r ≡ byte_of brace capital (get_or symbols i 0) → r ≡ get_or (bytes_of brace capital symbols) i 0
unfolding bytes_of
byte_at symbols i r h e = e ∙ sym (at_map (byte_of brace capital) symbols i h)

-- a unit of an LDH row is a byte
pub all-ldh-byte : (t : List ℕ) (i : ℕ) → is_all_ldh t ≡ true → i < length t → get_or t i 0 < 256
unfolding is_all_ldh
all-ldh-byte t i e h = ldh-byte (get_or t i 0) (at_each (length t) (λ k. is_ldh (get_or t k 0)) e i h)

-- the head, the units and the signature, one after another
module _ (s : Style) (t old : List ℕ) (w v : ℕ) (ew : w ≡ head_width s) (ev : v ≡ head_value s) (fits : length (body_of s t ++ signature) ≤ length old) where
  total : length (body_of s t ++ signature) ≡ 4 + quintet_count 0 w + length (symbols_from s false (spare_count 0 (head_width s)) t)
  total = length-signed s t ∙ rw (← ew)

  pub head-fits : 0 + quintet_count 0 w ≤ length old
  head-fits = omega (arith, total)

  module _ {first : List ℕ} {head : ℕ} (a : Stored old 0 (code_quintets s 0 w v t []) first head) where
    pub units-fit : head + length (symbols_from s false (spare_count 0 (head_width s)) t) ≤ length first
    units-fit = omega (arith, total, a.count, a.long, length-code s 0 w v t)

    module _ {second : List ℕ} {body : ℕ} (b : Stored first head (symbols_from s false (spare_count 0 (head_width s)) t) second body) where
      pub signature-fits : body + 4 ≤ length second
      signature-fits = omega (arith, total, a.count, a.long, b.count, b.long, length-code s 0 w v t)

      pub signed-put : {last : List ℕ} {r : ℕ} → Stored second body signature last r
          → (r ≡ length (body_of s t ++ signature)) × (last ≡ (body_of s t ++ signature) ++ drop (length (body_of s t ++ signature)) old)
      signed-put {last} {r} c =
          let body-split : body_of s t ≡ code_quintets s 0 w v t [] ++ symbols_from s false (spare_count 0 (head_width s)) t = body_is s t ∙ rw (ew, ev) in
          let all : Stored old 0 (body_of s t ++ signature) last r = rw body-split (stored-append (stored-append a b) c) in
          storing-none old (body_of s t ++ signature) last r [] all refl fits

-- what the symbols of a text are
module _ (t : List ℕ) where
  pub plain-symbols : is_plain t ≡ true → symbols_of t ≡ t
  unfolding symbols_of
  plain-symbols e = rw e

  pub signed-symbols : is_plain t ≡ false → length t ≤ 63 → (s : Style) → s ≡ style_of (take 63 t) → symbols_of t ≡ body_of s t ++ signature
  unfolding symbols_of
  signed-symbols e h s es = rw (e, es ∙ ap style_of (take_all 63 t h))

  pub length_label : length (label_of t) ≡ length (symbols_of t)
  unfolding label_of
  length_label = length-bytes (symbols_of t)

-- a text of at most 63 units: its symbols are refused as too many, or stored
module _ (t row : List ℕ) (is : symbols_of t ≡ row) where
  pub long-refused : 63 < length row → refused_if (ltb 63 (length (symbols_of t))) 3 0 (done (length (symbols_of t))) ≡ refused 3 0
  long-refused h = rw is (stop-below 3 0 _ 63 (length row) h)

  pub short-put : length row ≤ 63 → (old now : List ℕ) (n : ℕ) → (n ≡ length row) × (now ≡ row ++ drop (length row) old)
      → (done n ≡ refused_if (ltb 63 (length (symbols_of t))) 3 0 (done (length (symbols_of t))))
      × (now ≡ buffer_after (refused_if (ltb 63 (length (symbols_of t))) 3 0 (done (length (symbols_of t)))) (symbols_of t) old)
  short-put h old now n p =
      rw is (done-leaves _ row old now n (pass_below 3 0 _ 63 (length row) h ∙ ap done (sym p.0)) (rw p.0 p.1))

-- what encoding answers: the tests in turn
pub stop-capacity : (t : List ℕ) (capacity : ℕ) → capacity < 63 → encode_outcome capacity t ≡ refused 1 0
unfolding encode_outcome
stop-capacity t capacity h = stop-below 1 0 _ capacity 63 h

module _ (t : List ℕ) (capacity : ℕ) (room : 63 ≤ capacity) where
  pub stop-empty : length t ≡ 0 → encode_outcome capacity t ≡ refused 2 0
  unfolding encode_outcome
  stop-empty e = pass_below 1 0 _ capacity 63 room ∙ stop-equal 2 0 _ _ 0 e

  module _ (some : length t ≡ 0 → ⊥) (found : ℕ) (is : found ≡ first_unpaired t) where
    pub stop-unpaired : found < length t → encode_outcome capacity t ≡ refused 10 found
    unfolding encode_outcome
    stop-unpaired h = pass_below 1 0 _ capacity 63 room ∙ pass-equal 2 0 _ _ 0 some ∙ stop-found 10 (length t) _ found _ is h

    module _ (paired : length t ≤ found) where
      after-edges : encode_outcome capacity t ≡ refused_if (is_too_long t) 3 0 (done (length (label_of t)))
      unfolding encode_outcome
      after-edges =
          pass_below 1 0 _ capacity 63 room ∙ pass-equal 2 0 _ _ 0 some ∙ pass-found 10 (length t) _ found _ is paired
          ∙ pass-if 5 0 _ _ (label-edges t)

      pub stop-many : 63 < length t → encode_outcome capacity t ≡ refused 3 0
      unfolding is_too_long
      stop-many h = after-edges ∙ stop-if 3 0 _ _ (rw (lt-ltb 63 (length t) h))

      pub by_length : length t ≤ 63 → encode_outcome capacity t ≡ refused_if (ltb 63 (length (symbols_of t))) 3 0 (done (length (symbols_of t)))
      unfolding is_too_long
      by_length h = after-edges ∙ rw (le-ltb 63 (length t) h, length_label t)

-- the tests on sizes by one name
pub ruleset put_stops = (stop-capacity, stop-many)

-- a capacity over 63 says the same as 63
pub pass-capacity : (t : List ℕ) (capacity : ℕ) → 63 ≤ capacity → encode_outcome capacity t ≡ encode_outcome 63 t
unfolding encode_outcome
pass-capacity t capacity h = pass_below 1 0 _ capacity 63 h ∙ sym (pass_below 1 0 _ 63 63 (omega arith))

-- neither of two tests holds
pub either-false : (a b : Bool) → a || b ≡ false → (a ≡ false) × (b ≡ false)
either-false true b e = absurd (true-not-false refl e)
either-false false b e = (refl, e)

-- the count of what is done, and that it is no more than 63
pub encoded-count : (t : List ℕ) (capacity n : ℕ) → encode_outcome capacity t ≡ done n → (n ≡ length (symbols_of t)) × (n ≤ 63)
unfolding encode_outcome is_too_long
encoded-count t capacity n e =
    let room = passed _ _ _ _ n e in
    let some = passed _ _ _ _ n room.1 in
    let paired = passed _ _ _ _ n some.1 in
    let edges = passed _ _ _ _ n paired.1 in
    let short = passed _ _ _ _ n edges.1 in
    let count : length (label_of t) ≡ n = done-count refl short.1 in
    let few = ltb-false 63 (length (label_of t)) (either-false (ltb 63 (length t)) _ short.0).1 in
    (sym count ∙ length_label t, omega arith)

-- the symbols that are done, and the label that is written of them
module _ (t old now : List ℕ) (given : Outcome) (means : (given ≡ encode_outcome 63 t) × (now ≡ buffer_after (encode_outcome 63 t) (symbols_of t) old)) (n : ℕ) (is : given ≡ done n) where
  is-done : encode_outcome 63 t ≡ done n
  is-done = sym means.0 ∙ is

  pub symbols-few : n ≤ 63
  symbols-few = (encoded-count t 63 n is-done).1

  pub symbols-fit : n ≤ length now
  symbols-fit = values-fit (encode_outcome 63 t) (symbols_of t) old now n is-done (encoded-count t 63 n is-done).0 means.1

  pub symbols-long : n ≡ length (take n now)
  symbols-long = values-long (encode_outcome 63 t) (symbols_of t) old now n is-done (encoded-count t 63 n is-done).0 means.1

  symbols-are : take n now ≡ symbols_of t
  symbols-are = values-are (encode_outcome 63 t) (symbols_of t) old now n is-done (encoded-count t 63 n is-done).0 means.1

  pub label-put : (label written : List ℕ) (r : ℕ) → 63 ≤ length label
      → (r ≡ length (take n now)) × (written ≡ bytes_of brace capital (take n now) ++ drop (length (take n now)) label)
      → (done r ≡ encode_outcome (length label) t) × (written ≡ buffer_after (encode_outcome (length label) t) (label_of t) label)
  unfolding label_of
  label-put label written r h p =
      done-leaves (encode_outcome (length label) t) (label_of t) label written r
      (pass-capacity t (length label) h ∙ is-done ∙ ap done (symbols-long ∙ sym p.0))
      (rw p.0 (p.1 ∙ ap (λ (l : List ℕ). bytes_of brace capital l ++ drop (length (take n now)) label) symbols-are))
