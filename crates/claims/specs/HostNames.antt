-- Host names (the paper's full names): what parts are, each refusal by its causes, and both round trips. The codec is made of the
-- definitions that the contracts cite, in host_name_facts/specs/Codec.antt.
use Rattle.std.specs.Prelude.{ℕ, ◌≤◌, ◌<◌, ◌≡◌, ◌↔◌, List, ◌∷◌, map, length}
use Rattle.basis.specs.Causes.{whole, Settles}
use Rattle.basis.specs.Codec.{Writable}
use Rattle.ascii.specs.Case.{SameButCase}
use Rattle.host_name.specs.Parts.{parts_of, joined}
use Rattle.host_name.specs.Answer.{name_of, text_of_name, encode_outcome, decode_outcome}
use Rattle.host_name_facts.specs.Dotless.{Dotless}
use Rattle.host_name_facts.specs.Causes.{text_causes, name_causes}
use Rattle.host_name_facts.specs.Codec.{small_part, small_lace, codec}
use Rattle.claims.specs.Demands.{Writes, Reads}

pub record HostNames : Type 0 where
  -- the parts of a row join back to it, hold no dot, and are, of one part or more, the only ones that do so
  pub joins : (row : List ℕ) → joined (parts_of row) ≡ row
  pub dotless : (row : List ℕ) → Dotless (parts_of row)
  pub only : (part : List ℕ) (parts : List (List ℕ)) → Dotless (part ∷ parts) → parts_of (joined (part ∷ parts)) ≡ part ∷ parts
  -- each refusal exactly as the first of its causes says, 1 for a capacity under 253 before all others
  pub encoding : (capacity : ℕ) (text : List ℕ) → Settles (whole 1 (capacity < 253) ∷ text_causes text) (length (name_of text)) (encode_outcome capacity text)
  pub decoding : (capacity : ℕ) (name : List ℕ) → Settles (whole 1 (capacity < 253) ∷ name_causes name) (length (text_of_name name)) (decode_outcome capacity name)
  -- writing leaves a name exactly when the text may be written and this is its name
  pub writing : (buffer text name : List ℕ) → 253 ≤ length buffer → Writes codec buffer text name ↔ (Writable codec text × (name ≡ name_of text))
  -- reading leaves a text exactly when it may be written and its name is this one with its LACE labels in small letters
  pub reading : (buffer name text : List ℕ) → 253 ≤ length buffer → Reads codec buffer name text ↔ (Writable codec text × (name_of text ≡ small_lace name))
  -- reading and then writing gives the name with its LACE labels in small letters
  pub read_written : (buffer other name text : List ℕ) → 253 ≤ length other → Reads codec buffer name text → Writes codec other text (small_lace name)
  -- which is the name but for the case of A to Z, equally long, with any other label byte for byte
  pub but_for_case : (name : List ℕ) → SameButCase (small_lace name) name
  pub part_by_part : (name : List ℕ) → parts_of (small_lace name) ≡ map small_part (parts_of name)
  -- writing and then reading gives the text itself
  pub written_read : (buffer other text name : List ℕ) → 253 ≤ length other → Writes codec buffer text name → Reads codec other name text
  -- two accepted names read alike exactly when only the case of their LACE labels may differ
  pub alike : (buffer other name mate text words : List ℕ) → 253 ≤ length buffer → 253 ≤ length other → Reads codec buffer name text → Reads codec other mate words
      → (text ≡ words) ↔ (small_lace name ≡ small_lace mate)
