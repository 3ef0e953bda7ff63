-- Case: the text of a label, and the label of a text, go with the small form.
use Prim.Native.Nat.{ℕ, ◌+◌, ◌-◌, ◌*◌}
use mathlib.Core.Path.{◌≡◌, refl, ap, ap₂}
use mathlib.Core.Bool.{Bool, true, false, not}
use mathlib.Core.List.{List, [], ◌∷◌, ◌++◌, map, map-append}
use lib.Dec.{eqb}
use lib.ListN.{length, take, drop, length-map}
use Rattle.basis.specs.Tests.{every, every_in}
use Rattle.basis.proofs.Tests.{cases, both_left, both_right}
use Rattle.ascii.specs.Case.{small}
use Rattle.ascii.specs.Ldh.{is_ldh, is_all_ldh, is_host_label}
use Rattle.ascii.proofs.Case.{small-small, all_small}
use Rattle.ascii.proofs.EdgeHyphen.{small-keeps-hyphen, edges-map}
use Rattle.alphabet.specs.Alphabet.{brace}
use Rattle.copying.specs.Symbols.{byte_of, bytes_of, capital, is_for, are_for, quintet_of}
use Rattle.copying.specs.declared.Mode.{Mode}
use Rattle.copying.specs.Modes.{copying_after, is_copied, is_coded, is_second, next_mode}
use Rattle.copying.proofs.Case.{copying-small, drop-small, folded, head-number-small, ldh-same, letter-folded, mode_small, other-small, quintet-small, quintets-folded, switch-folded, take-small, value-small}
use Rattle.brace_format.specs.Signature.{signature, is_signed}
use Rattle.brace_format.specs.declared.style.Style.{Style}
use Rattle.brace_choice.specs.Choice.{codes_of, style_of}
use Rattle.brace_symbols.specs.Encoding.{ahead, code_quintets, unit_symbols, out_after, symbols_from, body_of, is_plain, symbols_of, label_of}
use Rattle.brace_text.specs.Decoding.{next_count, next_value, unit_taken, is_whole, adds, text_from, head_length, text_by, kind_of, body_text, text_of}
use Rattle.brace_facts.proofs.RoundTrip.{plain-ldh}

-- reading: a byte and its small form do the same, and add the same but for case
module _ (s : Style) (m : Mode) (k v b : ℕ) where
  count_small : next_count s m k v (small b) ≡ next_count s m k v b
  unfolding next_count is_coded
  count_small = rw (small-keeps-hyphen, quintet-small brace)

  queue-small : next_value s m k v (small b) ≡ next_value s m k v b
  unfolding next_value is_coded
  queue-small = rw (small-keeps-hyphen, quintet-small brace)

  adds-small : (x y : List ℕ) → map small x ≡ map small y → map small (adds s m k v (small b) x) ≡ map small (adds s m k v b y)
  unfolding adds unit_taken
  adds-small x y q =
      cases (eqb b 45)
      (λ e. rw (small-keeps-hyphen b, e) (cases (is_second m) (λ f. rw f (ap (λ (r : List ℕ). small 45 ∷ r) q)) (λ f. rw f q)))
      (λ e. rw (small-keeps-hyphen b, e, quintet-small brace b)
      (cases (is_copied m)
      (λ f. rw f (ap₂ ◌∷◌ (small-small b) q))
      (λ f. cases (is_whole s (k + 5) (v * 32 + quintet_of brace b)) (λ g. rw (f, g, q)) (λ g. rw (f, g) q))))

text-from-small : (s : Style) (m : Mode) (k v : ℕ) (l : List ℕ) → map small (text_from s m k v (map small l)) ≡ map small (text_from s m k v l)
unfolding text_from
text-from-small s m k v [] = refl
text-from-small s m k v (b ∷ l) =
    rw (mode_small m b, count_small s m k v b, queue-small s m k v b)
    (adds-small s m k v b _ _ (text-from-small s (next_mode m b) (next_count s m k v b) (next_value s m k v b) l))

kind-small : (l : List ℕ) → kind_of (map small l) ≡ kind_of l
unfolding kind_of
kind-small [] = refl
kind-small (b ∷ l) = rw (quintet-small brace)

body-text-small : (l : List ℕ) → map small (body_text (map small l)) ≡ map small (body_text l)
unfolding body_text text_by
body-text-small l = rw (kind-small l, head-number-small brace, drop-small) (text-from-small _ _ _ _ (drop (head_length (kind_of l)) l))

-- the signature
signature-small : (l : List ℕ) → are_for brace signature (map small l) ≡ are_for brace signature l
unfolding are_for signature is_for
signature-small [] = refl
signature-small (a ∷ []) = rw small-keeps-hyphen
signature-small (a ∷ b ∷ []) = simp (small-keeps-hyphen, value-small brace)
signature-small (a ∷ b ∷ c ∷ []) = simp (small-keeps-hyphen, value-small brace)
signature-small (a ∷ b ∷ c ∷ d ∷ []) = simp (small-keeps-hyphen, value-small brace)
signature-small (a ∷ b ∷ c ∷ d ∷ e ∷ l) = simp (small-keeps-hyphen, value-small brace)

signed-small : (l : List ℕ) → is_signed (map small l) ≡ is_signed l
unfolding is_signed
signed-small l = rw (length-map l small, drop-small (length l - 4) l) (signature-small (drop (length l - 4) l))

-- the text of a label and that of its small form differ at most in case
pub text-small : (l : List ℕ) → map small (text_of (map small l)) ≡ map small (text_of l)
unfolding text_of
text-small l =
    cases (is_signed l)
    (λ e. rw (signed-small l, e, length-map l small, take-small (length l - 4) l) (body-text-small (take (length l - 4) l)))
    (λ e. rw (signed-small l, e) (all_small l))

-- writing: a text and its small form have the same codes
codes-small : (t : List ℕ) → codes_of (map small t) ≡ codes_of t
unfolding codes_of
codes-small [] = refl
codes-small (u ∷ t) =
    rw (codes-small t, ldh-same u)
    (cases (is_ldh u) (λ e. rw e) (λ e. rw (e, other-small u e)))

style-small : (t : List ℕ) → style_of (map small t) ≡ style_of t
unfolding style_of
style-small t = rw codes-small

ahead_small : (s : Style) (k : ℕ) (t : List ℕ) → ahead s k (map small t) ≡ ahead s k t
unfolding ahead
ahead_small s k [] = refl
ahead_small s k (u ∷ t) =
    rw (ahead_small s k t, ldh-same u)
    (cases (is_ldh u) (λ e. rw e) (λ e. rw (e, other-small u e)))

unit-folded : (s : Style) (copying : Bool) (k u : ℕ) (t x y : List ℕ) → folded brace capital x ≡ folded brace capital y
    → folded brace capital (unit_symbols s copying k (small u) (map small t) x) ≡ folded brace capital (unit_symbols s copying k u t y)
unfolding unit_symbols bytes_of code_quintets
unit-folded s copying k u t x y q =
    cases (eqb u 45)
    (λ e. rw (small-keeps-hyphen u, e, q))
    (λ n. cases (is_ldh u)
    (λ e. rw (small-keeps-hyphen u, n, ldh-same u, e) (switch-folded brace capital (not copying) (small u ∷ x) (u ∷ y) (ap₂ ◌∷◌ (letter-folded brace capital u e) q)))
    (λ e. rw (small-keeps-hyphen u, n, ldh-same u, e, other-small u e, ahead_small s _ t) (switch-folded brace capital copying _ _ (quintets-folded brace capital _ _ x y q))))

out-small : (s : Style) (k u : ℕ) → out_after s k (small u) ≡ out_after s k u
unfolding out_after
out-small s k u = rw (ldh-same u) (cases (is_ldh u) (λ e. rw e) (λ e. rw (e, other-small u e)))

symbols-folded : (s : Style) (copying : Bool) (k : ℕ) (t : List ℕ) → folded brace capital (symbols_from s copying k (map small t)) ≡ folded brace capital (symbols_from s copying k t)
unfolding symbols_from
symbols-folded s copying k [] = refl
symbols-folded s copying k (u ∷ t) =
    rw (copying-small copying u, out-small s k u)
    (unit-folded s copying k u t _ _ (symbols-folded s (copying_after copying u) (out_after s k u) t))

body-folded : (s : Style) (t : List ℕ) → folded brace capital (body_of s (map small t)) ≡ folded brace capital (body_of s t)
unfolding body_of code_quintets
body-folded s t = rw (ahead_small s _ t) (quintets-folded brace capital _ _ _ _ (symbols-folded s false _ t))

all-ldh-small : (t : List ℕ) → every_in is_ldh (map small t) ≡ every_in is_ldh t
unfolding every
all-ldh-small [] = refl
all-ldh-small (u ∷ t) = rw (ldh-same u, all-ldh-small t)

plain-small : (t : List ℕ) → is_plain (map small t) ≡ is_plain t
unfolding is_plain is_host_label is_all_ldh
plain-small t = rw (signed-small t, edges-map small small-keeps-hyphen t, all-ldh-small t, length-map t small)

joined-folded : (x y : List ℕ) → folded brace capital x ≡ folded brace capital y → folded brace capital (x ++ signature) ≡ folded brace capital (y ++ signature)
unfolding bytes_of
joined-folded x y q = rw (map-append (byte_of brace capital) x signature, map-append (byte_of brace capital) y signature, map-append small (map (byte_of brace capital) x), map-append small (map (byte_of brace capital) y), q)

plain-folded : (t : List ℕ) → every_in is_ldh t ≡ true → folded brace capital (map small t) ≡ folded brace capital t
unfolding bytes_of every
plain-folded [] e = refl
plain-folded (u ∷ t) e = ap₂ ◌∷◌ (letter-folded brace capital u (both_left (is_ldh u) _ e)) (plain-folded t (both_right (is_ldh u) _ e))

-- the label of a text and that of its small form differ at most in case
pub label_small : (t : List ℕ) → map small (label_of (map small t)) ≡ map small (label_of t)
unfolding label_of symbols_of
label_small t =
    cases (is_plain t)
    (λ e. rw (plain-small t, e) (plain-folded t (plain-ldh t e)))
    (λ e. rw (plain-small t, e, style-small t) (joined-folded (body_of (style_of t) (map small t)) (body_of (style_of t) t) (body-folded (style_of t) t)))
