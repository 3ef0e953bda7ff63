-- Codecs and case: what is read from labels that differ at most in case.
use mathlib.Core.Path.{◌≡◌, sym, ap, ◌∙◌}
use mathlib.Core.Logic.{◌↔◌}
use mathlib.Core.List.{List, map}
use Prim.Native.Nat.{ℕ}
use Rattle.basis.specs.Codec.{Codec, Readable}
use Rattle.basis.proofs.Codec.{Faithful}
use Rattle.ascii.specs.Case.{small, SameButCase}
use Rattle.ascii.proofs.Case.{same-but-case}

module _ (c : Codec) where
  -- demand 3's last clause: two labels that may be read have the same text exactly when they differ
  -- at most in case
  abbrev pub ReadAlike : Type 0
  ReadAlike = (l k : List ℕ) → Readable c l → Readable c k → c.SameText (c.text_of l) (c.text_of k) ↔ SameButCase l k

  -- demand 3 whole: the rules of form, too, say which labels may be read
  pub record Ruled (WellFormed : List ℕ → Type 0) : Type 0 where
    pub formed : (l : List ℕ) → Readable c l ↔ WellFormed l
    pub alike : ReadAlike

module _ (c : Codec) (f : Faithful c) where
  -- where labels that differ at most in case count as the same, and texts that are equal, the last
  -- clause holds
  pub read_alike : ((t l : List ℕ) → c.SameLabel t l ↔ SameButCase (c.label_of t) l) → ((t u : List ℕ) → c.SameText t u ↔ (t ≡ u)) → ReadAlike c
  read_alike label text l k r q = (
    λ e. (same-but-case l k).1 (sym (spelled l r) ∙ ap (λ (t : List ℕ). map small (c.label_of t)) ((text _ _).0 e) ∙ spelled k q),
    λ e. (text _ _).1 (sym (f.text-is (c.text_of l) k (f.writable l r) ((label _ k).1 ((same-but-case _ k).1 (spelled l r ∙ (same-but-case l k).0 e))))),
  )
    where
      spelled : (l : List ℕ) → Readable c l → map small (c.label_of (c.text_of l)) ≡ map small l
      spelled l r = (same-but-case _ l).0 ((label _ l).0 (f.respelled l r))
