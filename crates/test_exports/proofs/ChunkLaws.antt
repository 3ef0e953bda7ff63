-- Laws on bytes that are received in chunks, one chunk after the other.
use Prim.Native.Nat.{ℕ, ◌+◌, ◌-◌, ◌≤◌, ◌<◌, min}
use mathlib.Core.Path.{◌≡◌, sym, ◌∙◌}
use mathlib.Core.List.{List}
use lib.ListN.{length, get_or, take, drop, length-drop, drop_of_length-le}
use lib.Seq.{drop-cons, drop-length, drop-drop, take_all}
use borrow.Author.Tests.{lt-ltb, le-ltb}
use native.Mathlib.Numerals.{add-one}
use native.Mathlib.Omega.{arith}
use Rattle.basis.proofs.Tests.{by-lt}
use Rattle.nametable_receiver.specs.Receiving.{State, received, received_all}
use Rattle.test_exports.specs.Chunks.{chunks_of}
use Rattle.test_exports.specs.Internal.{end_of}

-- where a chunk ends: inside, or at the end
module _ (start n total : ℕ) where
  ends-inside : n < total - start → end_of start n total ≡ start + n
  unfolding end_of
  ends-inside h = rw (lt-ltb n (total - start) h)

  ends-at-end : total - start ≤ n → end_of start n total ≡ total
  unfolding end_of
  ends-at-end h = rw (le-ltb n (total - start) h)

  pub ends : (room : ℕ) → room ≡ min n (total - start) → start ≤ total → start + room ≡ end_of start n total
  ends room is h =
      by-lt n (total - start)
      (λ l. omega (arith, ends-inside l))
      (λ l. omega (arith, ends-at-end l))

-- the chunk of this length, and what is left after it, by its end
module _ (bytes : List ℕ) (start n : ℕ) (s : start ≤ length bytes) where
  abbrev end : ℕ
  end = end_of start n (length bytes)

  chunk-is : take n (drop start bytes) ≡ take (end - start) (drop start bytes)
  chunk-is = by-lt n (length bytes - start)
      (λ h. let e : start + n - start ≡ n = omega arith in rw (ends-inside start n (length bytes) h, e))
      (λ h. rw (ends-at-end start n (length bytes) h) (take_all n (drop start bytes) (rw (length-drop start bytes) h) ∙ sym (take_all (length bytes - start) (drop start bytes) (rw (length-drop start bytes) (omega arith)))))

  rest-is : drop n (drop start bytes) ≡ drop end bytes
  rest-is = drop-drop n start bytes ∙ by-lt n (length bytes - start)
      (λ h. rw (ends-inside start n (length bytes) h))
      (λ h. rw (ends-at-end start n (length bytes) h, drop-length bytes) (drop_of_length-le bytes {i = start + n} (omega arith)))

  -- a turn of the loop, at the length at index i
  pub chunks-turn : (t : State) (lengths : List ℕ) (i : ℕ) → i < length lengths → n ≡ get_or lengths i 0
      → received_all t (chunks_of (drop i lengths) (drop start bytes)) ≡ received_all (received t (take (end - start) (drop start bytes))) (chunks_of (drop (i + 1) lengths) (drop end bytes))
  unfolding received_all chunks_of
  chunks-turn t lengths i h is = rw (drop-cons lengths i 0 h, add-one i, ← is, chunk-is, rest-is)

pub chunks-over : (t : State) (lengths bytes : List ℕ) (i : ℕ) → i ≡ length lengths → received_all t (chunks_of (drop i lengths) bytes) ≡ t
unfolding received_all chunks_of
chunks-over t lengths bytes i h = rw (h, drop-length lengths)
