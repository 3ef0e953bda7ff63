-- Known bytes that are put to a writer, or taken from a reader, call by call.
use Rattle.std.proofs.Common.{◌≡◌, ℕ, ◌+◌, ◌-◌, ◌≤◌, List, ◌++◌, length, take, drop, sym, ap, ◌∙◌, subst, le_refl, length-take-le, drop_at}
use Rattle.std.proofs.lemmas.List.{take_rest}
use Rattle.std.proofs.lemmas.Slice.{take-put_mid_below}
use Rattle.std.proofs.KnownBytes.{Appends-trans, Consumes-trans}
use Rattle.std.specs.declared.option.Option.{Option}
use Rattle.std.specs.Io.KnownBytes.{Appends, Consumes}
use borrow.Rule.Slice.PartMut.{put_mid, post_of}
use lib.Seq.{take-add, take-append-le}

-- what was written before, and so many bytes of the rest
pub written-more : (a b c : Option (List ℕ)) (bytes : List ℕ) (done n : ℕ)
    → Appends a b (take done bytes) → Appends b c (take n (take (length bytes - done) (drop done bytes))) → Appends a c (take (done + n) bytes)
written-more a b c bytes done n p q =
    subst (Appends a c) (ap (λ l. take done bytes ++ take n l) (take_rest bytes done) ∙ sym (take-add done n bytes)) (Appends-trans a b c _ _ p q)

-- what was taken before, and so many bytes that were put behind it
pub taken-more : (a b c : Option (List ℕ)) (buffer part : List ℕ) (done n : ℕ) → done ≤ length buffer → n ≤ length part
    → Consumes a b (take done buffer) → Consumes b c (take n part)
    → Consumes a c (take (done + n) (put_mid done (length buffer - done) buffer part))
taken-more a b c buffer part done n inside fits p q =
    let now = put_mid done (length buffer - done) buffer part in
    let front : take done now ≡ take done buffer = take-put_mid_below _ _ _ _ _ (le_refl _) inside in
    let rest : take n (drop done now) ≡ take n part =
    ap (take n) (drop_at (take done buffer) (part ++ post_of done (length buffer - done) buffer) done (length-take-le done buffer inside)) ∙ take-append-le n part _ fits in
    subst (Consumes a c) (sym (take-add done n now ∙ ap (λ l. l ++ take n (drop done now)) front ∙ ap (λ l. take done buffer ++ l) rest)) (Consumes-trans a b c _ _ p q)
