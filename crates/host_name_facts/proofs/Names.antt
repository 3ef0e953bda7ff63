-- Whole names: the text that is read from a name is written as this name, with its LACE labels in small letters, and is the only such text.
use Prim.Native.Nat.{ℕ, ◌≤◌}
use mathlib.Core.Path.{◌≡◌, refl, sym, ap, ap₂, ◌∙◌}
use mathlib.Core.Logic.{◌↔◌}
use mathlib.Core.List.{List, [], ◌∷◌, map}
use lib.ListN.{length, length-append}
use borrow.Author.Tests.{ltb-false}
use native.Mathlib.Omega.{arith}
use Rattle.basis.specs.Outcome.{Outcome}
use Rattle.basis.proofs.Outcome.{passed, pass_below, pass-equal, IsDone}
use Rattle.host_name.specs.Parts.{parts_of, after_dots, joined}
use Rattle.host_name.specs.Answer.{part_label, part_written, part_text, part_read, name_of, text_of_name, encode_outcome, decode_outcome}
use Rattle.host_name_facts.specs.Dotless.{Dotless}
use Rattle.host_name_facts.specs.Codec.{small_part, small_lace}
use Rattle.host_name.proofs.Parts.{some-parts, parts_join}
use Rattle.host_name_facts.proofs.Parts.{parts-dotless, parts-mapped}
use Rattle.host_name_facts.proofs.SmallLace.{name-as-long, name-by-part}
use Rattle.host_name.proofs.InTurn.{AllDone, in-turn-done, done-in-turn}
use Rattle.host_name_facts.proofs.Labels.{name-parts}
use Rattle.host_name_facts.proofs.PartAnswers.{written-some, read_some}
use Rattle.host_name_facts.proofs.Part.{read-spells, spells-read, label_small}

-- parts that are joined are as long as the first at least
some-joined : (first : List ℕ) (others : List (List ℕ)) → 1 ≤ length first → 1 ≤ length (joined (first ∷ others))
unfolding joined
some-joined first others h = omega (arith, length-append first (after_dots others))

-- a row of which every part is done, by an answer that refuses an empty part, is not empty
some-row : (answer : List ℕ → Outcome) → ((part : List ℕ) → IsDone (answer part) → 1 ≤ length part) → (row : List ℕ) → AllDone answer (parts_of row) → 1 ≤ length row
some-row answer some row all =
    let (first, others, is) = some-parts row in
    let whole : joined (first ∷ others) ≡ row = sym (ap joined is) ∙ parts_join row in
    rw (← whole) (some-joined first others (some first (rw is at all).0))

-- what a text has that is written, given room
pub record Written (text : List ℕ) : Type 0 where
  pub parts : AllDone part_written (parts_of text)
  pub short : length (name_of text) ≤ 253

-- what a name has that is read, given room
pub record Read (name : List ℕ) : Type 0 where
  pub short : length name ≤ 253
  pub parts : AllDone part_read (parts_of name)

module _ (capacity : ℕ) where
  -- writing is done exactly if there is room and each part is written and the name is short
  pub written-iff : (text : List ℕ) → IsDone (encode_outcome capacity text) ↔ ((253 ≤ capacity) × Written text)
  unfolding encode_outcome
  written-iff text = (
    λ (n, e).
        let (room, rest) = passed _ _ _ _ n e in
        let (_, tests) = passed _ _ _ _ n rest in
        let (all, last) = in-turn-done part_written _ 0 (parts_of text) tests in
        (ltb-false capacity 253 room, record { parts = all; short = ltb-false 253 (length (name_of text)) (passed _ _ _ _ n last).0 }),
    λ (room, w). (
      length (name_of text),
      pass_below 1 0 _ capacity 253 room
          ∙ pass-equal 2 0 _ (length text) 0 (λ z. omega (arith, some-row part_written written-some text w.parts))
          ∙ done-in-turn part_written _ 0 (parts_of text) w.parts
          ∙ pass_below 3 0 _ 253 (length (name_of text)) w.short,
    ),
  )

  -- reading is done exactly if there is room and the name is short and each part is read
  pub read-iff : (name : List ℕ) → IsDone (decode_outcome capacity name) ↔ ((253 ≤ capacity) × Read name)
  unfolding decode_outcome
  read-iff name = (
    λ (n, e).
        let (room, rest) = passed _ _ _ _ n e in
        let (_, tests) = passed _ _ _ _ n rest in
        let (short, turns) = passed _ _ _ _ n tests in
        (ltb-false capacity 253 room, record { short = ltb-false 253 (length name) short; parts = (in-turn-done part_read _ 0 (parts_of name) turns).0 }),
    λ (room, r). (
      length (text_of_name name),
      pass_below 1 0 _ capacity 253 room
          ∙ pass-equal 2 0 _ (length name) 0 (λ z. omega (arith, some-row part_read read_some name r.parts))
          ∙ pass_below 3 0 _ 253 (length name) r.short
          ∙ done-in-turn part_read _ 0 (parts_of name) r.parts,
    ),
  )

-- each of these texts spells the label at its index
abbrev SpellEach : (texts labels : List (List ℕ)) → Type 0
SpellEach texts labels = Dotless texts × AllDone part_written texts × (map part_label texts ≡ map small_part labels)

-- labels that are read are spelled by their texts
read-each : (labels : List (List ℕ)) → AllDone part_read labels → SpellEach (map part_text labels) labels
unfolding Dotless
read-each [] all = (tt, tt, refl)
read-each (label ∷ labels) all =
    let s = read-spells label all.0 in
    let (dotless, written, is) = read-each labels all.1 in
    ((s.dotless, dotless), (s.written, written), ap₂ ◌∷◌ s.is is)

-- labels that texts spell are read as these
each_read : (texts labels : List (List ℕ)) → SpellEach texts labels → AllDone part_read labels × (map part_text labels ≡ texts)
unfolding Dotless
each_read [] [] s = (tt, refl)
each_read [] (label ∷ labels) (d, w, e) = absurd (omega (arith, ap length e))
each_read (text ∷ texts) [] (d, w, e) = absurd (omega (arith, ap length e))
each_read (text ∷ texts) (label ∷ labels) (d, w, e) =
    let first : part_label text ≡ small_part label = cc in
    let others : map part_label texts ≡ map small_part labels = cc in
    let (reads, is) = spells-read text label (record { written = w.0; dotless = d.0; is = first }) in
    let (all, are) = each_read texts labels (d.1, w.1, others) in
    ((reads, all), ap₂ ◌∷◌ is are)

-- the text of a name that is read may be written, as this name with its LACE labels in small letters
pub read-spelled : (name : List ℕ) → Read name → Written (text_of_name name) × (name_of (text_of_name name) ≡ small_lace name)
unfolding text_of_name name_of small_lace
read-spelled name r =
    let (dotless, written, are) = read-each (parts_of name) r.parts in
    let parts : parts_of (text_of_name name) ≡ map part_text (parts_of name) = parts-mapped part_text name dotless in
    let is : name_of (text_of_name name) ≡ small_lace name = ap (λ (ps : List (List ℕ)). joined (map part_label ps)) parts ∙ ap joined are in
    (record { parts = rw parts written; short = omega (arith, ap length is, name-as-long name, r.short) }, is)

-- a name that is that of a text that may be written, with its LACE labels in small letters, is read as this text
pub spelled-read : (text name : List ℕ) → Written text → name_of text ≡ small_lace name → Read name × (text_of_name name ≡ text)
unfolding text_of_name
spelled-read text name w is =
    let (all, are) = each_read (parts_of text) (parts_of name) (parts-dotless text, w.parts, sym (name-parts text) ∙ ap parts_of is ∙ name-by-part name) in
    (record { short = omega (arith, ap length is, name-as-long name, w.short); parts = all }, ap joined are ∙ parts_join text)

-- the LACE labels of the name of a text are in small letters already
labels-small : (texts : List (List ℕ)) → AllDone part_written texts → map small_part (map part_label texts) ≡ map part_label texts
labels-small [] all = refl
labels-small (text ∷ texts) all = ap₂ ◌∷◌ (label_small text all.0) (labels-small texts all.1)

pub name-small : (text : List ℕ) → Written text → small_lace (name_of text) ≡ name_of text
unfolding small_lace name_of
name-small text w = ap (λ (ps : List (List ℕ)). joined (map small_part ps)) (name-parts text) ∙ ap joined (labels-small (parts_of text) w.parts)
