-- Laws on a whole name: its tests in turn, and what its parts together say.
use Prim.Native.Nat.{ℕ, ◌≤◌, ◌<◌}
use mathlib.Core.Path.{◌≡◌, refl, sym, ap, ◌∙◌}
use mathlib.Core.List.{List}
use lib.Dec.{ltb}
use lib.ListN.{length}
use native.Mathlib.Omega.{arith}
use Rattle.basis.specs.Outcome.{done, refused, refused_if}
use Rattle.basis.proofs.Tests.{by-lt}
use Rattle.basis.proofs.Outcome.{stop-below, pass_below, stop-equal, pass-equal, done-count}
use Rattle.host_name.specs.Parts.{parts_of}
use Rattle.host_name.specs.Answer.{part_written, part_read, in_turn, name_of, text_of_name, encode_outcome, decode_outcome}
use Rattle.host_name.specs.Internal.{capped}
use Rattle.host_name.proofs.InTurn.{in-turn-done, done-in-turn, in-turn-refused}
use Rattle.host_name.proofs.Placing.{capped-over, capped-within}

-- writing
module _ (capacity : ℕ) (text : List ℕ) where
  pub write-no-room : capacity < 253 → encode_outcome capacity text ≡ refused 1 0
  unfolding encode_outcome
  write-no-room h = stop-below 1 0 _ capacity 253 h

  module _ (room : 253 ≤ capacity) where
    pub write-empty : length text ≡ 0 → encode_outcome capacity text ≡ refused 2 0
    unfolding encode_outcome
    write-empty e = pass_below 1 0 _ capacity 253 room ∙ stop-equal 2 0 _ (length text) 0 e

    module _ (some : length text ≡ 0 → ⊥) where
      whole : encode_outcome capacity text ≡ in_turn part_written 0 (parts_of text) (refused_if (ltb 253 (length (name_of text))) 3 0 (done (length (name_of text))))
      unfolding encode_outcome
      whole = pass_below 1 0 _ capacity 253 room ∙ pass-equal 2 0 _ (length text) 0 some

      -- by what all labels together are answered, counted up to 254
      pub write-refused : {number position : ℕ} → in_turn part_written 0 (parts_of text) (done (capped (length (name_of text)))) ≡ refused number position
          → encode_outcome capacity text ≡ refused number position
      write-refused e = whole ∙ in-turn-refused part_written _ 0 (parts_of text) _ refl e

      module _ (n : ℕ) (e : in_turn part_written 0 (parts_of text) (done (capped (length (name_of text)))) ≡ done n) where
        counted : capped (length (name_of text)) ≡ n
        counted = done-count refl (in-turn-done part_written _ 0 (parts_of text) e).1

        tested : encode_outcome capacity text ≡ refused_if (ltb 253 (length (name_of text))) 3 0 (done (length (name_of text)))
        tested = whole ∙ done-in-turn part_written _ 0 (parts_of text) (in-turn-done part_written _ 0 (parts_of text) e).0

        pub write-long : 253 < n → encode_outcome capacity text ≡ refused 3 0
        write-long h =
            by-lt 253 (length (name_of text))
            (λ l. tested ∙ stop-below 3 0 _ 253 (length (name_of text)) l)
            (λ l. absurd (omega (arith, counted, capped-within (length (name_of text)) l)))

        pub write-count : n ≤ 253 → n ≡ length (name_of text)
        write-count h =
            by-lt 253 (length (name_of text))
            (λ l. absurd (omega (arith, counted, capped-over (length (name_of text)) l)))
            (λ l. sym counted ∙ capped-within (length (name_of text)) l)

        pub write_done : n ≤ 253 → encode_outcome capacity text ≡ done n
        write_done h = let c = write-count h in tested ∙ pass_below 3 0 _ 253 (length (name_of text)) (omega arith) ∙ ap done (sym c)

-- reading
module _ (capacity : ℕ) (name : List ℕ) where
  pub read-no-room : capacity < 253 → decode_outcome capacity name ≡ refused 1 0
  unfolding decode_outcome
  read-no-room h = stop-below 1 0 _ capacity 253 h

  module _ (room : 253 ≤ capacity) where
    pub read-no-name : length name ≡ 0 → decode_outcome capacity name ≡ refused 2 0
    unfolding decode_outcome
    read-no-name e = pass_below 1 0 _ capacity 253 room ∙ stop-equal 2 0 _ (length name) 0 e

    module _ (some : length name ≡ 0 → ⊥) where
      pub read-long : 253 < length name → decode_outcome capacity name ≡ refused 3 0
      unfolding decode_outcome
      read-long h = pass_below 1 0 _ capacity 253 room ∙ pass-equal 2 0 _ (length name) 0 some ∙ stop-below 3 0 _ 253 (length name) h

      -- what all labels together are answered
      pub read_all : length name ≤ 253 → decode_outcome capacity name ≡ in_turn part_read 0 (parts_of name) (done (length (text_of_name name)))
      unfolding decode_outcome
      read_all h = pass_below 1 0 _ capacity 253 room ∙ pass-equal 2 0 _ (length name) 0 some ∙ pass_below 3 0 _ 253 (length name) h

-- the count of what all labels together are answered
pub read_count : (name : List ℕ) (n : ℕ) → in_turn part_read 0 (parts_of name) (done (length (text_of_name name))) ≡ done n → n ≡ length (text_of_name name)
read_count name n e = sym (done-count refl (in-turn-done part_read _ 0 (parts_of name) e).1)
