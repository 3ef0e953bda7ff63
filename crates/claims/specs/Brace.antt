-- What BRACE promises beyond the demands, which pin neither its styles nor its choice among them: it is as the draft says.
use Rattle.std.specs.Prelude.{ℕ, ◌*◌, ◌/◌, ◌≤◌, ◌<◌, ◌≡◌, ◌↔◌, List, eqb, ltb, length}
use Rattle.basis.specs.Rows.{at, AllBelow}
use Rattle.basis.specs.Outcome.{done, refused_if, and_then}
use Rattle.utf16.specs.Bytes.{units_of_bytes, bytes_of_units}
use Rattle.utf16.specs.Answer.{is_odd}
use Rattle.brace_choice.specs.Choice.{codes_of, mixed_cost, no_row_cost, style_of}
use Rattle.brace_symbols.specs.Encoding.{body_of, label_of}
use Rattle.brace_text.specs.Decoding.{text_of}
use Rattle.brace.specs.Answer.{encode_outcome, decode_outcome}
use Rattle.brace_format.specs.declared.style.Style.TheVariants.{HalfRow, Row, Mixed, NoRow}
use Rattle.brace_facts.specs.Procedure.{draft_body}
use Rattle.brace_facts.specs.Choice.{BestHalf, AllIn, coded_count}
use Rattle.brace_facts.specs.KnownLabels.{Computed, ComputedRefusals}
use Rattle.brace_facts.specs.Published.{Published}
use Rattle.firmware.specs.Answer.{write_outcome, written_label, read_outcome, read_text}

-- the draft's procedure and choices, known labels, and the C interface
pub record BraceAsDrafted : Type 0 where
  -- the draft's own procedure, with its queue of bits and its buffer of LDH, gives the symbols before the signature
  pub procedure : (text : List ℕ) → AllBelow 65536 text → draft_body (style_of text) text ≡ body_of (style_of text) text
  -- half-row style is chosen exactly if all units that are not LDH are in one half-row, row style exactly if all are in one row and not
  -- in one half-row
  pub half_row : (text : List ℕ) (half : ℕ) → (style_of text ≡ HalfRow half) ↔ AllIn 128 (codes_of text) half
  pub row : (text : List ℕ) (row : ℕ) → (style_of text ≡ Row row) ↔ (AllIn 256 (codes_of text) row × ((half : ℕ) → AllIn 128 (codes_of text) half → ⊥))
  -- in mixed style the half-row is used, has the least M and is the lowest with it, and that M is less than M'
  pub mixed : (text : List ℕ) (half : ℕ) → style_of text ≡ Mixed half
      → BestHalf (codes_of text) half × (mixed_cost (codes_of text) half < no_row_cost (codes_of text))
  -- in no-row style no half-row that is used has an M less than M'
  pub no_row : (text : List ℕ) → style_of text ≡ NoRow → (i : ℕ) → i < length (codes_of text) → no_row_cost (codes_of text) ≤ mixed_cost (codes_of text) (at (codes_of text) i / 128)
  -- M is how many characters before the signature are coded in mixed style, and M' how many are in no-row style
  pub mixed_counts : (text : List ℕ) (half : ℕ) → mixed_cost (codes_of text) half ≡ coded_count (body_of (Mixed half) text)
  pub no_row_counts : (text : List ℕ) → no_row_cost (codes_of text) ≡ coded_count (body_of NoRow text)
  -- known labels both ways, labels that no text has, and refusals; and the published examples
  pub known : Computed
  pub known_refusals : ComputedRefusals
  pub published : Published
  -- the C interface answers, after the paper's own tests, as if the units of a text went to BRACE straight
  pub interface_writes : (capacity : ℕ) (bytes : List ℕ) → AllBelow 256 bytes
      → write_outcome 3 capacity bytes
      ≡ refused_if (ltb capacity 63) 1 0 (refused_if (is_odd (length bytes)) 12 0 (refused_if (eqb (length bytes) 0) 2 0 (refused_if (ltb 252 (length bytes)) 3 0
      (encode_outcome capacity (units_of_bytes bytes)))))
  pub interface_label : (capacity count : ℕ) (bytes : List ℕ) → AllBelow 256 bytes → write_outcome 3 capacity bytes ≡ done count
      → written_label 3 bytes ≡ label_of (units_of_bytes bytes)
  -- and as if the units that it reads came back straight
  pub interface_reads : (capacity : ℕ) (label : List ℕ)
      → read_outcome 3 capacity label ≡ refused_if (ltb capacity 252) 1 0 (and_then (λ position. position) (decode_outcome 63 label) (done (2 * length (text_of label))))
  pub interface_text : (count : ℕ) (label : List ℕ) → decode_outcome 63 label ≡ done count → read_text 3 label ≡ bytes_of_units (text_of label)
