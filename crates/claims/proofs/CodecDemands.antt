-- The demands of a codec follow from the facts about it.
use Prim.Native.Nat.{ℕ, ◌≤◌}
use mathlib.Core.Path.{◌≡◌, refl, sym, ◌∙◌}
use mathlib.Core.Logic.{◌↔◌}
use mathlib.Core.List.{List}
use lib.ListN.{length}
use lib.Seq.{take-append_seam}
use native.Mathlib.Omega.{arith}
use Rattle.basis.specs.Causes.{Cause, NoCause, Settles}
use Rattle.basis.specs.Outcome.{Outcome, buffer_after}
use Rattle.basis.specs.Codec.{Codec, Readable}
use Rattle.basis.proofs.Codec.{Faithful, encode-settled, decode-settled}
use Rattle.ascii.proofs.Codec.{ReadAlike, Ruled}
use Rattle.ascii.proofs.Case.{same-but-case}
use Rattle.claims.specs.Demands.{Leaves, Reads, Demand2Of, AlikeOf, Demand3Of}

-- a function that is settled by its causes leaves its values, and nothing else, exactly when no cause holds
pub settled-leaves : {causes : List Cause} {outcome : Outcome} (values buffer row : List ℕ) → Settles causes (length values) outcome
    → Leaves outcome values buffer row ↔ (NoCause causes × (row ≡ values))
unfolding buffer_after
settled-leaves values buffer row settled = (
  λ r. let q = (settled.succeeds r.count).0 r.answers in (q.0, sym r.leaves ∙ rw (r.answers, q.1) (take-append_seam values _)),
  λ p.
      let e = (settled.succeeds (length values)).1 (p.0, refl) in
      record { count = length values; answers = e; leaves = rw e (take-append_seam values _) ∙ sym p.1 },
)

module _ (c : Codec) (f : Faithful c) where
  -- given room, decoding leaves a text exactly when the label may be read and this is its text
  reads-iff : (buffer l t : List ℕ) → 63 ≤ length buffer → Reads c buffer l t ↔ (Readable c l × (t ≡ c.text_of l))
  reads-iff buffer l t room = settled-leaves (c.text_of l) buffer t (decode-settled c f (length buffer) l room)

  pub demand2-of : Demand2Of c
  demand2-of = record {
    encoding = f.encoding;
    decoding = f.decoding;
    writing = λ buffer t l room. settled-leaves (c.label_of t) buffer l (encode-settled c f (length buffer) t (omega (arith, room)));
    reading = λ buffer l t room.
        let i = reads-iff buffer l t room in (
          λ r. let q = i.0 r in rw q.1 (f.writable l q.0, f.respelled l q.0),
          λ p. i.1 (f.readable t l p.0 p.1, sym (f.text-is t l p.0 p.1)),
        );
  }

  pub alike_of : ReadAlike c → AlikeOf c
  alike_of alike buffer other l k t u room space r q =
      let a = (reads-iff buffer l t room).0 r in
      let b = (reads-iff other k u space).0 q in
      rw (a.1, b.1) (alike l k a.0 b.0)

  pub demand3-of : (WellFormed : List ℕ → Type 0) → Ruled c WellFormed → Demand3Of c WellFormed
  demand3-of WellFormed ruled = record {
    accepted = λ buffer l room.
        let d = decode-settled c f (length buffer) l (omega (arith, room)) in
        (λ a. (ruled.formed l).0 ((d.succeeds a.0).0 a.1).0, λ w. (length (c.text_of l), (d.succeeds _).1 ((ruled.formed l).1 w, refl)));
    exists = λ buffer l room w.
        let r = (ruled.formed l).1 w in
        (c.text_of l, f.writable l r, f.respelled l r, (reads-iff buffer l (c.text_of l) room).1 (r, refl), ((decode-settled c f (length buffer) l room).succeeds _).1 (r, refl));
    unique = λ l t u w a p b q.
        let r = (ruled.formed l).1 w in
        rw (← f.text-is t l a p, ← f.text-is u l b q) ((ruled.alike l l r r).1 ((same-but-case l l).1 refl));
    alike = alike_of ruled.alike;
  }
