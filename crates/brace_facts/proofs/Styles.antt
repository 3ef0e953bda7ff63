-- The codes of each style can be told apart, and the style of a text suits every unit of it.
use Prim.Native.Nat.{ℕ, ◌+◌, ◌-◌, ◌/◌, ◌%◌, ◌^◌, ◌≤◌, ◌<◌}
use mathlib.Core.Path.{◌≡◌, refl, sym, subst}
use mathlib.Core.Bool.{false}
use mathlib.Core.List.{List, [], ◌∷◌}
use lib.Dec.{eqb, ltb}
use borrow.Author.Tests.{eqb-true, lt-ltb, le-ltb, eq-eqb}
use native.Mathlib.Omega.{arith}
use Rattle.basis.specs.Tests.{every_in}
use Rattle.basis.specs.Rows.{AllBelow}
use Rattle.basis.proofs.Tests.{cases, true-not-false}
use Rattle.basis.proofs.Lists.{below-tail}
use Rattle.ascii.specs.Ldh.{is_ldh}
use Rattle.copying.proofs.Elements.{AllOf, all_tested, all_then}
use Rattle.brace_format.specs.declared.style.Style.{Style}
use Rattle.brace_format.specs.declared.style.Style.TheVariants.{HalfRow, Row, Mixed, NoRow}
use Rattle.brace_format.specs.Style.{other_half, width_of, code_of, width_by, unit_of}
use Rattle.brace_choice.specs.Choice.{codes_of, mixed_or_no_row, best_of, mixed_cost, no_row_cost, style_for, style_of}
use Rattle.brace_facts.proofs.Codes.{Codes, AllCodes}

codes-half : (h u : ℕ) → u / 128 ≡ h → Codes (HalfRow h) u
unfolding width_of code_of width_by unit_of
codes-half h u e = record { wide = omega arith; fits = omega arith; told = refl; back = omega arith }

codes-row : (r u : ℕ) → u / 256 ≡ r → Codes (Row r) u
unfolding width_of code_of width_by unit_of
codes-row r u e = record { wide = omega arith; fits = omega arith; told = refl; back = omega arith }

codes-none : (u : ℕ) → u < 65536 → Codes NoRow u
unfolding width_of code_of width_by unit_of
codes-none u h = record { wide = omega arith; fits = h; told = refl; back = omega arith }

-- by the width and the value
codes-by : (s : Style) (u w c : ℕ) → width_of s u ≡ w → code_of s u ≡ c → 5 ≤ w → c < 2 ^ w → width_by s (c / 2 ^ (w - 2)) ≡ w → unit_of s c ≡ u → Codes s u
codes-by s u w c we ce wide fits told back = record { wide = rw we wide; fits = rw (we, ce) fits; told = rw (we, ce) told; back = rw ce back }

module _ (h u : ℕ) where
  in-half : u / 128 ≡ h → Codes (Mixed h) u
  unfolding width_of code_of width_by unit_of
  in-half q =
      codes-by (Mixed h) u 8 (u % 128) (rw (eq-eqb (u / 128) h q)) (rw (eq-eqb (u / 128) h q)) (omega arith) (omega arith)
      (rw (lt-ltb (u % 128 / 64) 2 (omega arith))) (rw (lt-ltb (u % 128) 128 (omega arith)) (omega arith))

  in-other : eqb (u / 128) h ≡ false → u / 128 ≡ other_half h → Codes (Mixed h) u
  unfolding width_of code_of width_by unit_of
  in-other n q =
      let top : (256 + u % 128) / 128 ≡ 2 = omega arith in
      codes-by (Mixed h) u 9 (256 + u % 128) (rw (n, eq-eqb (u / 128) (other_half h) q)) (rw (n, eq-eqb (u / 128) (other_half h) q)) (omega arith) (omega arith)
      (rw top)
      (rw (le-ltb (256 + u % 128) 128 (omega arith), lt-ltb (256 + u % 128) 65536 (omega arith)) (omega arith))

  elsewhere : eqb (u / 128) h ≡ false → eqb (u / 128) (other_half h) ≡ false → u < 65536 → Codes (Mixed h) u
  unfolding width_of code_of width_by unit_of
  elsewhere n e b =
      let top : (196608 + u) / 65536 ≡ 3 = omega arith in
      codes-by (Mixed h) u 18 (196608 + u) (rw (n, e)) (rw (n, e)) (omega arith) (omega arith)
      (rw top)
      (rw (le-ltb (196608 + u) 128 (omega arith), le-ltb (196608 + u) 65536 (omega arith)) (omega arith))

  codes-mixed : u < 65536 → Codes (Mixed h) u
  codes-mixed b =
      cases (eqb (u / 128) h)
      (λ e. in-half (eqb-true (u / 128) h e))
      (λ n. cases (eqb (u / 128) (other_half h)) (λ e. in-other n (eqb-true (u / 128) (other_half h) e)) (λ e. elsewhere n e b))

-- the codes of a text are units of it
pub codes-below : (t : List ℕ) → AllBelow 65536 t → AllOf (λ u. u < 65536) (codes_of t)
unfolding AllOf codes_of
codes-below [] b = tt
codes-below (u ∷ t) b =
    let r = codes-below t (below-tail 65536 u t b) in
    cases (is_ldh u) (λ e. rw e r) (λ e. rw e (b 0 (omega arith), r))

-- what suits the codes suits the text
codes_all : (s : Style) (t : List ℕ) → AllOf (Codes s) (codes_of t) → AllCodes s t
unfolding AllOf codes_of AllCodes
codes_all s [] a = tt
codes_all s (u ∷ t) a =
    cases (is_ldh u)
    (λ e. (λ f. absurd (true-not-false e f), codes_all s t (rw e at a)))
    (λ e. let b : Codes s u × AllOf (Codes s) (codes_of t) = rw e at a in (λ f. b.0, codes_all s t b.1))

-- codes of the style chosen
suits-by : (cs : List ℕ) (s : Style) → style_for cs ≡ s → AllOf (Codes s) cs → AllOf (Codes (style_for cs)) cs
suits-by cs s e a = subst (λ z. AllOf (Codes z) cs) (sym e) a

-- the style chosen for a row of codes suits them
style-suits : (cs : List ℕ) → AllOf (λ u. u < 65536) cs → AllOf (Codes (style_for cs)) cs
unfolding style_for mixed_or_no_row AllOf
style-suits [] a = tt
style-suits (c ∷ cs) a =
    cases (every_in (λ x. eqb (x / 128) (c / 128)) cs)
    (λ e. suits-by (c ∷ cs) (HalfRow (c / 128)) (rw e) (codes-half (c / 128) c refl, all_tested (λ u. u < 65536) (Codes (HalfRow (c / 128))) (λ x. eqb (x / 128) (c / 128)) (λ x f b. codes-half (c / 128) x (eqb-true _ _ f)) cs e a.1))
    (λ n. cases (every_in (λ x. eqb (x / 256) (c / 256)) cs)
    (λ e. suits-by (c ∷ cs) (Row (c / 256)) (rw (n, e)) (codes-row (c / 256) c refl, all_tested (λ u. u < 65536) (Codes (Row (c / 256))) (λ x. eqb (x / 256) (c / 256)) (λ x f b. codes-row (c / 256) x (eqb-true _ _ f)) cs e a.1))
    (λ k. cases (ltb (mixed_cost (c ∷ cs) (best_of (c ∷ cs) (c / 128) cs)) (no_row_cost (c ∷ cs)))
    (λ e. suits-by (c ∷ cs) (Mixed (best_of (c ∷ cs) (c / 128) cs)) (rw (n, k, e)) (all_then (λ u. u < 65536) (Codes (Mixed (best_of (c ∷ cs) (c / 128) cs))) (codes-mixed (best_of (c ∷ cs) (c / 128) cs)) (c ∷ cs) a))
    (λ e. suits-by (c ∷ cs) NoRow (rw (n, k, e)) (all_then (λ u. u < 65536) (Codes NoRow) codes-none (c ∷ cs) a))))

-- the style of a text suits it
pub text-suits : (t : List ℕ) → AllBelow 65536 t → AllCodes (style_of t) t
unfolding style_of
text-suits t b = codes_all (style_for (codes_of t)) t (style-suits (codes_of t) (codes-below t b))
