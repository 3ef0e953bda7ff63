-- A label begins and ends with no hyphen, so that encoding needs no test for it.
use Prim.Native.Nat.{ℕ, zero, suc, ◌+◌, ◌-◌, ◌*◌, ◌/◌, ◌%◌, ◌^◌, ◌≤◌}
use mathlib.Core.Path.{◌≡◌, refl}
use mathlib.Core.Bool.{true, false, not}
use mathlib.Core.List.{List, ◌++◌, map, map-append}
use lib.Dec.{eqb}
use lib.ListN.{length, length-append}
use lib.Seq.{get_or-append-add}
use borrow.Author.Tests.{not-true}
use native.Mathlib.Omega.{arith}
use Rattle.basis.specs.Tests.{both, within, every}
use Rattle.basis.specs.Rows.{at}
use Rattle.basis.proofs.Tests.{cases, both_right, at_each}
use Rattle.ascii.specs.Ldh.{is_all_ldh, has_edge_hyphen, is_host_label}
use Rattle.alphabet.specs.Alphabet.{brace, character_of}
use Rattle.copying.specs.Symbols.{byte_of, bytes_of, capital, quintets}
use Rattle.copying.proofs.Bytes.{ldh-bytes}
use Rattle.brace_format.specs.declared.style.Style.{Style}
use Rattle.brace_format.specs.Signature.{signature}
use Rattle.brace_format.specs.Style.{head_width}
use Rattle.brace_choice.specs.Choice.{style_of}
use Rattle.brace_symbols.specs.Encoding.{quintet_count, code_quintets, body_of, is_plain, symbols_of, label_of}
use Rattle.brace_symbols.proofs.Codes.{head_few}
use Rattle.brace_symbols.proofs.Signed.{plain-host, plain-ldh}

-- the byte of a quintet is no hyphen
bytes-tested : every 32 (λ q. not (eqb (byte_of brace capital q) 45)) ≡ true
unfolding every both within byte_of capital character_of brace
bytes-tested = refl

first-quintet : (n x : ℕ) (rest : List ℕ) → 1 ≤ n → eqb (at (bytes_of brace capital (quintets n x rest ++ signature)) 0) 45 ≡ false
unfolding bytes_of quintets
first-quintet zero x rest h = absurd (omega arith)
first-quintet (suc n) x rest h = not-true _ (at_each 32 (λ q. not (eqb (byte_of brace capital q) 45)) bytes-tested (x / 2 ^ (5 * n) % 32) (omega arith))

head-some : (s : Style) → 1 ≤ quintet_count 0 (head_width s)
unfolding quintet_count
head-some s = omega (arith, (head_few s).0)

last-signed : (body : List ℕ) → at (bytes_of brace capital (body ++ signature)) (length (bytes_of brace capital (body ++ signature)) - 1) ≡ 57
unfolding bytes_of signature byte_of capital character_of brace within both
last-signed body =
    let e : length (map (byte_of brace capital) body) + 4 - 1 ≡ length (map (byte_of brace capital) body) + 3 = omega arith in
    rw (map-append (byte_of brace capital) body signature, length-append (map (byte_of brace capital) body) (map (byte_of brace capital) signature), e) (get_or-append-add (map (byte_of brace capital) body) (map (byte_of brace capital) signature) 3 0)

signed-edges : (s : Style) (t : List ℕ) → has_edge_hyphen (bytes_of brace capital (body_of s t ++ signature)) ≡ false
unfolding has_edge_hyphen body_of code_quintets
signed-edges s t =
    rw (first-quintet (quintet_count 0 (head_width s)) _ _ (head-some s), last-signed (body_of s t))

plain-edges : (t : List ℕ) → is_plain t ≡ true → has_edge_hyphen t ≡ false
unfolding is_host_label
plain-edges t e = not-true _ (both_right _ _ (both_right _ _ (plain-host t e)))

plain-bytes : (t : List ℕ) → is_plain t ≡ true → bytes_of brace capital t ≡ t
unfolding is_all_ldh
plain-bytes t e = ldh-bytes brace capital t (plain-ldh t e)

pub label-edges : (t : List ℕ) → has_edge_hyphen (label_of t) ≡ false
unfolding label_of symbols_of
label-edges t =
    cases (is_plain t)
    (λ e. rw (e, plain-bytes t e) (plain-edges t e))
    (λ e. rw e (signed-edges (style_of t) t))
