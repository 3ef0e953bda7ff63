-- Demand 1 holds: the tests of each outcome have listed numbers, and what is done counts its values, for which there is room.
use Prim.Native.Nat.{ℕ, zero, suc, ◌*◌, ◌/◌, ◌≤◌, ◌<◌}
use mathlib.Core.Path.{◌≡◌, refl, sym, ap, ◌∙◌}
use mathlib.Core.Bool.{Bool, true, false, not}
use mathlib.Core.List.{List, [], ◌∷◌}
use lib.Dec.{eqb, ltb}
use lib.ListN.{length, get_or, take, drop, length-append, length-drop}
use lib.Seq.{take_at, drop_at, length-take-le}
use borrow.Author.Tests.{ltb-true, le-ltb, ltb-false, eqb-true, ne_eqb, not-true, not-false}
use native.Mathlib.Omega.{arith}
use Rattle.basis.specs.Rows.{at, AllBelow}
use Rattle.basis.specs.Tests.{both, every}
use Rattle.basis.specs.Outcome.{Outcome, done, refused, refused_if, and_then, buffer_after}
use Rattle.basis.specs.Outcome as basis
use Rattle.basis.specs.Causes.{whole, Settles}
use Rattle.basis.proofs.Tests.{cases, ltb_iff, true-not-false, within_low, within-high, at_each, first-le, none-iff}
use Rattle.basis.proofs.Outcome.{by-test, done-not-refused, done-count}
use Rattle.basis.proofs.Causes.{settle-done, settle-whole}
use Rattle.ascii.specs.Ldh.{is_host_label}
use Rattle.ascii.specs.Prefix.{has_prefix}
use Rattle.utf16.specs.Points.{is_point, is_text, first_not_point}
use Rattle.utf16.specs.Units as utf16
use Rattle.utf16.specs.Bytes.{units_of_bytes, bytes_of_units, points_of, bytes_of}
use Rattle.utf16.specs.Answer as utf16-answer
use Rattle.utf16.proofs.BytePairs.{length-units_of_bytes, length-bytes_of_units, below-units_of_bytes}
use Rattle.utf16.proofs.Refusals.{to-units-settled, to-points-settled, points-to-bytes-settled, units-to-bytes-settled, bytes-to-units-settled, bytes-to-points-settled}
use Rattle.utf16.proofs.RoundTrip.{units-text, length-to_units, length-to_points, length-bytes_of}
use Rattle.alphabet.specs.Alphabet as alphabet
use Rattle.base32.specs.Form.{octet_count}
use Rattle.base32.specs.Base32.{characters_of, to_octets}
use Rattle.base32.specs.Answer as base32
use Rattle.base32.proofs.Outcomes.{encode-settled, decode-settled}
use Rattle.base32.proofs.Regroup.{length-to_octets}
use Rattle.base32.proofs.Values.{length-values, length-characters_of}
use Rattle.altdude.specs.Encoding as altdude-encoding
use Rattle.altdude.specs.Decoding as altdude-decoding
use Rattle.altdude.specs.Marks as altdude-marking
use Rattle.altdude.specs.Answer as altdude
use Rattle.altdude.proofs.DecodeLaws as altdude-laws
use Rattle.altdude_facts.proofs.Marked.{altdude-marks}
use Rattle.lace_format.specs.Prefix.{prefix}
use Rattle.lace_encoding.specs.Encoding as lace-encoding
use Rattle.lace_decoding.specs.Decoding as lace-decoding
use Rattle.lace.specs.Answer as lace
use Rattle.lace_facts.proofs.Label as lace-laws
use Rattle.lace_facts.proofs.Marked.{lace-marks}
use Rattle.brace_symbols.specs.Encoding as brace-encoding
use Rattle.brace_text.specs.Decoding as brace-decoding
use Rattle.brace_text.specs.Answer.{body_outcome}
use Rattle.brace_text.proofs.Reading.{body-few}
use Rattle.brace.specs.Answer as brace
use Rattle.brace.specs.Points as brace-points
use Rattle.brace_symbols.proofs.Edges.{label-edges}
use Rattle.brace_symbols.proofs.Labels.{length-bytes, either-false}
use Rattle.brace.proofs.PointsLaws.{text-unpaired, lawful-short}
use Rattle.scheme.specs.declared.Scheme.{Scheme}
use Rattle.scheme.specs.declared.Scheme.TheVariants.{Altdude, Lace, Brace}
use Rattle.scheme.specs.Naming.{row_of, number_names, scheme_named}
use Rattle.scheme.specs.Naming as naming
use Rattle.scheme.proofs.Naming.{by-scheme}
use Rattle.labels.specs.Tests.{text_tests, marks_room_test, label_tests}
use Rattle.labels.specs.Marks.{marks_tests}
use Rattle.labels.proofs.FirstTests.{label-passed}
use Rattle.scheme.specs.Coding as scheme
use Rattle.host_name.specs.Parts.{parts_of}
use Rattle.host_name.specs.Answer as host-name
use Rattle.host_name.proofs.Lengths.{name-text-fits}
use Rattle.nametable_format.specs.Format.{header_kind, header_length, entry_length, label_capacity, count_of, table_length, entry_at, kind_of, reader_of, length_of, label_in, scheme_in}
use Rattle.nametable.specs.Answer.{header_tests, length_tests, header_outcome, form_tests, entry_judged, entries_judged, read_outcome, text_in, entry_text, found_outcome, find_outcome, entry_read, lone_entry_outcome, judged_entry_outcome}
use Rattle.nametable_write.specs.Writing as writing
use Rattle.nametable.proofs.TableLaws.{other-kind, cut-table, found-refused, find-refused, judged-as-found}
use Rattle.nametable_facts.proofs.Settled.{header-alone-settled, read-settled, find-settled, lone-entry-settled, judged-entry-settled, write-settled}
use Rattle.nametable_facts.proofs.Truncation.{prefix-truncated}
use Rattle.nametable_facts.proofs.Whole.{label-long, lone-entry-counts, entry-counts, judged-entry-counts}
use Rattle.nametable_facts.proofs.ReadBack.{written-counts}
use Rattle.nametable_receiver.specs.Receiving as receiver
use Rattle.nametable_receiver_facts.proofs.Settled.{verdict-settled}
use Rattle.nametable_short_format.specs.Format.{short_header_kind, room_of, fewest_of, first_entry, after_first, long_of}
use Rattle.nametable_short.specs.Answer.{whole_tests, short_entry_judged, short_entries_judged, short_read_outcome, short_entry_text, short_find_outcome, move_outcome, to_short_outcome, to_long_outcome}
use Rattle.nametable_short.specs.Answer as short
use Rattle.nametable_short_format.proofs.EntryLaws.{room_small, long-size}
use Rattle.nametable_short.proofs.MoveLaws.{move-refused}
use Rattle.nametable_short_facts.proofs.Settled.{fewest-some, short-read-settled, short-find-settled, to-short-settled, to-long-settled}
use Rattle.nametable_short_facts.proofs.Counts.{short-entry-counts}
use Rattle.firmware.specs.Answer.{answer_of, write_by, write_outcome, written_label, read_by, read_text}
use Rattle.firmware.specs.Answer as firmware
use Rattle.firmware.proofs.Counts.{write-few, read-few}
use Rattle.report.specs.Lines.{list_line, points_line, refused_at_line, refused_line, left_word, right_word, side_refused_line, difference_line, counts_line}
use Rattle.report.specs.Answer.{line_outcome}
use Rattle.nametable_differences.proofs.LineLaws.{refusal-fits}
use Rattle.nametable_differences.specs.Differences.{is_short, verdict_of}
use Rattle.nametable_differences.specs.Report.{report_of, report_capacity, report_outcome}
use Rattle.claims.specs.Demand1.{is_one_of, Listed, Answers, Tells, encode_codes, decode_codes, name_encode_codes, name_decode_codes, table_codes, table_write_codes, write_codes, read_codes, Cut, OtherForm, Demand1}
use Rattle.claims.proofs.Interface.{written-some, read_some}
use Rattle.claims.proofs.Positions.{verdict-placed}
use Rattle.claims.proofs.Receiving.{as-read-at-once}
use Rattle.claims.proofs.Differences.{refused-left, refused-right, whole_room}

-- a chain of tests: each that holds has a listed number
module _ {codes : List ℕ} where
  listed-done : (count : ℕ) → Listed codes (done count)
  listed-done count = record { one_of = λ number position e. absurd (done-not-refused refl e) }

  listed-refused : (number position : ℕ) → is_one_of codes number ≡ true → Listed codes (refused number position)
  listed-refused number position here = record { one_of = λ k p e. let q : number ≡ k = cc in rw (← q) here }

  listed-if : (test : Bool) (number position : ℕ) {next : Outcome} → is_one_of codes number ≡ true → (test ≡ false → Listed codes next)
      → Listed codes (refused_if test number position next)
  listed-if test number position {next} here later = by-test (Listed codes) test number position next (λ _. listed-refused number position here) later

-- an outcome is done, or refused with a listed number; done, it counts its values, for which there is room
record Good (codes : List ℕ) (outcome : Outcome) (values : List ℕ) (room : ℕ) : Type 0 where
  listed : Listed codes outcome
  counts : (n : ℕ) → outcome ≡ done n → (n ≡ length values) × (n ≤ room)

-- a function with such an outcome, whose buffer has the room
answers : {codes : List ℕ} (outcome : Outcome) {values : List ℕ} {buffer : List ℕ} → Good codes outcome values (length buffer) → Answers codes outcome values buffer
unfolding buffer_after basis.count_of
answers (done n) {values} {buffer} g =
    let c = g.counts n refl in
    record {
      listed = g.listed;
      untouched = λ number position e. absurd (done-not-refused refl e);
      written = λ count e. take_at values (drop n buffer) count (omega (arith, c.0, done-count refl e));
      within = c.1;
      as_long = omega (arith, c.0, c.1, length-append values (drop n buffer), length-drop n buffer);
      unchanged = drop_at values (drop n buffer) n (sym c.0);
    }
answers (refused number position) g = record {
  listed = g.listed;
  untouched = λ k p e. refl;
  written = λ count e. absurd (done-not-refused e refl);
  within = omega arith;
  as_long = refl;
  unchanged = refl;
}

-- a chain of tests that ends with the count
module _ {codes values : List ℕ} {room : ℕ} where
  good-done : (count : ℕ) → count ≡ length values → count ≤ room → Good codes (done count) values room
  good-done count is fits = record { listed = listed-done count; counts = λ n e. let q : count ≡ n = done-count refl e in rw (← q) (is, fits) }

  good-refused : (number position : ℕ) → is_one_of codes number ≡ true → Good codes (refused number position) values room
  good-refused number position here = record { listed = listed-refused number position here; counts = λ n e. absurd (done-not-refused e refl) }

  good-if : (test : Bool) (number position : ℕ) {next : Outcome} → (test ≡ true → is_one_of codes number ≡ true) → (test ≡ false → Good codes next values room)
      → Good codes (refused_if test number position next) values room
  good-if test number position {next} here later =
      by-test (λ o. Good codes o values room) test number position next (λ e. good-refused number position (here e)) later

-- a refusal that is reported at another position keeps its number
then-listed : {codes : List ℕ} (place : ℕ → ℕ) (outcome next : Outcome) → Listed codes outcome → Listed codes next → Listed codes (and_then place outcome next)
unfolding and_then
then-listed place (done count) next listed later = later
then-listed place (refused number position) next listed later = listed-refused number (place position) (listed.one_of number position refl)

then-good : {codes values : List ℕ} {room : ℕ} (place : ℕ → ℕ) (outcome next : Outcome) → Listed codes outcome → Good codes next values room
    → Good codes (and_then place outcome next) values room
unfolding and_then
then-good place (done count) next listed later = later
then-good place (refused number position) next listed later = good-refused number (place position) (listed.one_of number position refl)

-- the conversions
to-units : (points : List ℕ) (count : ℕ) (units : List ℕ)
    → Answers (1 ∷ 4 ∷ []) (utf16-answer.to_units_outcome points count (length units)) (utf16.to_units (take count points)) units
unfolding utf16-answer.to_units_outcome utf16-answer.converted is_one_of
to-units points count units =
    answers _ (good-if _ _ _ (λ _. refl) (λ row. good-if _ _ _ (λ _. refl) (λ room. good-if _ _ _ (λ _. refl) (λ _. good-done _ refl
    (omega (arith, length-to_units (take count points), length-take-le count points (ltb-false (length points) count row), ltb-false (length units) (2 * count) room))))))

to-points : (units : List ℕ) (count : ℕ) (points : List ℕ)
    → Answers (1 ∷ 10 ∷ []) (utf16-answer.to_points_outcome units count (length points)) (utf16.to_points (take count units)) points
unfolding utf16-answer.to_points_outcome utf16-answer.converted is_one_of
to-points units count points =
    answers _ (good-if _ _ _ (λ _. refl) (λ row. good-if _ _ _ (λ _. refl) (λ room. good-if _ _ _ (λ _. refl) (λ _. good-done _ refl
    (omega (arith, length-to_points (take count units), length-take-le count units (ltb-false (length units) count row), ltb-false (length points) count room))))))

points-to-bytes : (points : List ℕ) (count : ℕ) (bytes : List ℕ)
    → Answers (1 ∷ 4 ∷ []) (utf16-answer.points_to_bytes_outcome points count (length bytes)) (bytes_of (take count points)) bytes
unfolding utf16-answer.points_to_bytes_outcome utf16-answer.converted is_one_of
points-to-bytes points count bytes =
    answers _ (good-if _ _ _ (λ _. refl) (λ row. good-if _ _ _ (λ _. refl) (λ room. good-if _ _ _ (λ _. refl) (λ _. good-done _ refl
    (omega (arith, length-bytes_of (take count points), length-take-le count points (ltb-false (length points) count row), ltb-false (length bytes) (4 * count) room))))))

units-to-bytes : (units : List ℕ) (count : ℕ) (bytes : List ℕ)
    → Answers (1 ∷ []) (utf16-answer.units_to_bytes_outcome units count (length bytes)) (bytes_of_units (take count units)) bytes
unfolding utf16-answer.units_to_bytes_outcome is_one_of
units-to-bytes units count bytes =
    answers _ (good-if _ _ _ (λ _. refl) (λ row. good-if _ _ _ (λ _. refl) (λ room. good-done _ refl
    (omega (arith, length-bytes_of_units (take count units), length-take-le count units (ltb-false (length units) count row), ltb-false (length bytes) (2 * count) room)))))

bytes-to-units : (bytes units : List ℕ) → Answers (1 ∷ 12 ∷ []) (utf16-answer.bytes_to_units_outcome bytes (length units)) (units_of_bytes bytes) units
unfolding utf16-answer.bytes_to_units_outcome is_one_of
bytes-to-units bytes units =
    answers _ (good-if _ _ _ (λ _. refl) (λ room. good-if _ _ _ (λ _. refl) (λ _. good-done _ refl
    (omega (arith, length-units_of_bytes bytes, ltb-false (length units) (length bytes / 2) room)))))

bytes-to-points : (bytes points : List ℕ) → Answers (12 ∷ 1 ∷ 10 ∷ []) (utf16-answer.bytes_to_points_outcome bytes (length points)) (points_of bytes) points
unfolding utf16-answer.bytes_to_points_outcome utf16-answer.refused_unpaired points_of is_one_of
bytes-to-points bytes points =
    answers _ (good-if _ _ _ (λ _. refl) (λ _. good-if _ _ _ (λ _. refl) (λ room. good-if _ _ _ (λ _. refl) (λ _. good-done _ refl
    (omega (arith, length-to_points (units_of_bytes bytes), length-units_of_bytes bytes, ltb-false (length points) (length bytes / 2) room))))))

-- Base32
base32-encode : (octets characters : List ℕ)
    → Answers (1 ∷ []) (base32.encode_outcome octets (length characters)) (characters_of alphabet.lace octets) characters
unfolding base32.encode_outcome is_one_of
base32-encode octets characters =
    answers _ (good-if _ _ _ (λ _. refl) (λ room. good-done _ (sym (length-characters_of alphabet.lace octets)) (ltb-false _ _ room)))

base32-decode : (characters octets : List ℕ)
    → Answers (1 ∷ 7 ∷ 9 ∷ []) (base32.decode_outcome characters (length octets)) (to_octets (alphabet.values_of alphabet.lace characters)) octets
unfolding base32.decode_outcome is_one_of
base32-decode characters octets =
    answers _ (good-if _ _ _ (λ _. refl) (λ room. good-if _ _ _ (λ _. refl) (λ _. good-if _ _ _ (λ _. refl) (λ _. good-done _
    (sym (length-to_octets (alphabet.values_of alphabet.lace characters) ∙ ap octet_count (length-values alphabet.lace characters)))
    (ltb-false _ _ room)))))

-- the first tests, where their numbers are listed
module _ {codes values : List ℕ} (capacity : ℕ) {next : Outcome} where
  -- of writing a text; 4 need be only if a number is no point
  text-good : (t : List ℕ) → is_one_of codes 1 ≡ true → is_one_of codes 2 ≡ true → (ltb (first_not_point t) (length t) ≡ true → is_one_of codes 4 ≡ true)
      → (63 ≤ capacity → Good codes next values capacity) → Good codes (text_tests capacity t next) values capacity
  unfolding text_tests
  text-good t one two four rest =
      good-if _ _ _ (λ _. one) (λ room. good-if _ _ _ (λ _. two) (λ _. good-if _ _ _ four (λ _. rest (ltb-false capacity 63 room))))

  -- of reading a label; 1, 2 and 3 need be only if there is no room, and for no byte or too many
  label-good : (bytes : ℕ) → (ltb capacity 63 ≡ true → is_one_of codes 1 ≡ true) → (eqb bytes 0 ≡ true → is_one_of codes 2 ≡ true) → (ltb 63 bytes ≡ true → is_one_of codes 3 ≡ true)
      → (63 ≤ capacity → bytes ≤ 63 → Good codes next values capacity) → Good codes (label_tests capacity bytes next) values capacity
  unfolding label_tests
  label-good bytes one two three rest =
      good-if _ _ _ one (λ room. good-if _ _ _ two (λ _. good-if _ _ _ three (λ short. rest (ltb-false capacity 63 room) (ltb-false 63 bytes short))))

-- of marks that are to be written, and of a row for marks that are to be read
module _ {codes values : List ℕ} {room : ℕ} {next : Outcome} where
  marks-good : (keeps : Bool) (t marks : List ℕ) → is_one_of codes 15 ≡ true → Good codes next values room → Good codes (marks_tests keeps t marks next) values room
  unfolding marks_tests
  marks-good keeps t marks fifteen rest = good-if _ _ _ (λ _. fifteen) (λ _. good-if _ _ _ (λ _. fifteen) (λ _. rest))

  room-good : (capacity : ℕ) → is_one_of codes 1 ≡ true → (63 ≤ capacity → Good codes next values room) → Good codes (marks_room_test capacity next) values room
  unfolding marks_room_test
  room-good capacity one rest = good-if _ _ _ (λ _. one) (λ e. rest (ltb-false capacity 63 e))

-- what they answer where nothing follows
check-text : (capacity : ℕ) (t : List ℕ) → Listed (1 ∷ 2 ∷ 4 ∷ []) (text_tests capacity t (done 0))
unfolding is_one_of
check-text capacity t = (text-good {values = []} capacity t refl refl (λ _. refl) (λ _. good-done 0 refl (omega arith))).listed

check-marked : (keeps : Bool) (capacity : ℕ) (t marks : List ℕ) → Listed (1 ∷ 2 ∷ 4 ∷ 15 ∷ []) (text_tests capacity t (marks_tests keeps t marks (done 0)))
unfolding is_one_of
check-marked keeps capacity t marks =
    (text-good {values = []} capacity t refl refl (λ _. refl) (λ _. marks-good keeps t marks refl (good-done 0 refl (omega arith)))).listed

check-label : (capacity bytes : ℕ) → Listed (1 ∷ 2 ∷ 3 ∷ []) (label_tests capacity bytes (done 0))
unfolding is_one_of
check-label capacity bytes = (label-good {values = []} capacity bytes (λ _. refl) (λ _. refl) (λ _. refl) (λ _ _. good-done 0 refl (omega arith))).listed

-- writing a label: the scheme's own test, whose number need be listed only if it holds, then 3
module _ (codes : List ℕ) (capacity : ℕ) (t : List ℕ)
    (one : is_one_of codes 1 ≡ true) (two : is_one_of codes 2 ≡ true) (three : is_one_of codes 3 ≡ true)
    (four : ltb (first_not_point t) (length t) ≡ true → is_one_of codes 4 ≡ true) where
  last-good : (number : ℕ) (own : Bool) (label values : List ℕ) → (own ≡ true → is_one_of codes number ≡ true) → length label ≡ length values → 63 ≤ capacity
      → Good codes (refused_if own number 0 (refused_if (ltb 63 (length label)) 3 0 (done (length label)))) values capacity
  last-good number own label values here same room =
      good-if _ _ _ here (λ _. good-if _ _ _ (λ _. three) (λ short. good-done _ same (omega (arith, ltb-false 63 (length label) short))))

  own-good : (number : ℕ) (own : Bool) (label : List ℕ) → (own ≡ true → is_one_of codes number ≡ true)
      → Good codes (text_tests capacity t (refused_if own number 0 (refused_if (ltb 63 (length label)) 3 0 (done (length label))))) label capacity
  own-good number own label here = text-good capacity t one two four (last-good number own label label here refl)

  -- with marks, and values as many as the label has bytes
  marked-good : (keeps : Bool) (marks : List ℕ) (number : ℕ) (own : Bool) (label values : List ℕ) → is_one_of codes 15 ≡ true → is_one_of codes number ≡ true → length label ≡ length values
      → Good codes (text_tests capacity t (marks_tests keeps t marks (refused_if own number 0 (refused_if (ltb 63 (length label)) 3 0 (done (length label)))))) values capacity
  marked-good keeps marks number own label values fifteen here same =
      text-good capacity t one two four (λ room. marks-good keeps t marks fifteen (last-good number own label values (λ _. here) same room))

  altdude-encoded : is_one_of codes 5 ≡ true → Good codes (altdude.encode_outcome capacity t) (altdude-encoding.label_of t) capacity
  unfolding altdude.encode_outcome
  altdude-encoded five = own-good 5 _ _ (λ _. five)

  lace-encoded : (is_host_label t ≡ true → is_one_of codes 6 ≡ true) → Good codes (lace.encode_outcome is_host_label capacity t) (lace-encoding.label_of t) capacity
  unfolding lace.encode_outcome
  lace-encoded six = own-good 6 _ _ six

-- reading a label
module _ (codes : List ℕ) (capacity : ℕ) (l : List ℕ)
    (one : ltb capacity 63 ≡ true → is_one_of codes 1 ≡ true) (two : eqb (length l) 0 ≡ true → is_one_of codes 2 ≡ true)
    (three : ltb 63 (length l) ≡ true → is_one_of codes 3 ≡ true) (seven : is_one_of codes 7 ≡ true) (nine : is_one_of codes 9 ≡ true) where
  altdude-decoded : is_one_of codes 5 ≡ true → Good codes (altdude.decode_outcome capacity l) (altdude-decoding.text_of l) capacity
  unfolding altdude.decode_outcome
  altdude-decoded five =
      label-good capacity (length l) one two three (λ room short.
      good-if _ _ _ (λ _. seven) (λ _. good-if _ _ _ (λ _. five) (λ _. good-if _ _ _ (λ _. nine) (λ _.
      good-done _ refl (omega (arith, altdude-laws.text-fits l))))))

  -- 8 need be listed only if lq-- is missing
  lace-decoded : (not (has_prefix prefix l) ≡ true → is_one_of codes 8 ≡ true) → is_one_of codes 6 ≡ true → Good codes (lace.decode_outcome is_host_label capacity l) (lace-decoding.text_of l) capacity
  unfolding lace.decode_outcome
  lace-decoded eight six =
      label-good capacity (length l) one two three (λ room short.
      good-if _ _ _ eight (λ _. good-if _ _ _ (λ _. seven) (λ _. good-if _ _ _ (λ _. nine) (λ _. good-if _ _ _ (λ _. six) (λ _.
      good-done _ refl (omega (arith, lace-laws.text-fits l)))))))

-- writing with marks
altdude-encode-marked : (text marks label : List ℕ)
    → Answers (1 ∷ 2 ∷ 4 ∷ 15 ∷ 5 ∷ 3 ∷ []) (altdude.encode_marked_outcome (length label) text marks) (altdude-marking.marked marks (altdude-encoding.label_of text)) label
unfolding altdude.encode_marked_outcome is_one_of
altdude-encode-marked text marks label =
    answers _ (marked-good _ _ text refl refl refl (λ _. refl) true marks 5 _ (altdude-encoding.label_of text) _ refl refl (altdude-marks.same-label text marks).equally_long)

lace-encode-marked : (text marks label : List ℕ)
    → Answers (1 ∷ 2 ∷ 4 ∷ 15 ∷ 6 ∷ 3 ∷ []) (lace.encode_marked_outcome is_host_label (length label) text marks) (lace-encoding.label_of text) label
unfolding lace.encode_marked_outcome is_one_of
lace-encode-marked text marks label = answers _ (marked-good _ _ text refl refl refl (λ _. refl) false marks 6 _ (lace-encoding.label_of text) _ refl refl refl)

-- reading with marks: what is as long as the text of a label is good in another buffer with the room
beside-good : {codes values : List ℕ} (capacity bytes : ℕ) (next : Outcome) (others : List ℕ) (room : ℕ) → Good codes (label_tests capacity bytes next) values capacity
    → length others ≡ length values → length values ≤ bytes → 63 ≤ room → Good codes (label_tests capacity bytes next) others room
beside-good capacity bytes next others room good same fits wide = record {
  listed = good.listed;
  counts = λ n e. let c = good.counts n e in (c.0 ∙ sym same, omega (arith, (label-passed capacity bytes n next e).short, c.0));
}

altdude-decode-marked-text : (label text marks : List ℕ)
    → Answers (decode_codes Altdude) (altdude.decode_marked_outcome (length text) (length marks) label) (altdude-decoding.text_of label) text
unfolding altdude.decode_marked_outcome decode_codes is_one_of
altdude-decode-marked-text label text marks = answers _ (room-good (length marks) refl (λ _. altdude-decoded _ _ _ (λ _. refl) (λ _. refl) (λ _. refl) refl refl refl))

altdude-decode-marked-marks : (label text marks : List ℕ)
    → Answers (decode_codes Altdude) (altdude.decode_marked_outcome (length text) (length marks) label) (altdude-marking.marks_of label) marks
unfolding altdude.decode_marked_outcome altdude.decode_outcome decode_codes is_one_of
altdude-decode-marked-marks label text marks =
    answers _ (room-good (length marks) refl
    (beside-good (length text) (length label) _ _ _ (altdude-decoded _ _ label (λ _. refl) (λ _. refl) (λ _. refl) refl refl refl) (altdude-marks.as_many label) (altdude-laws.text-fits label)))

lace-decode-marked-text : (label text marks : List ℕ)
    → Answers (decode_codes Lace) (lace.decode_marked_outcome is_host_label (length text) (length marks) label) (lace-decoding.text_of label) text
unfolding lace.decode_marked_outcome decode_codes is_one_of
lace-decode-marked-text label text marks = answers _ (room-good (length marks) refl (λ _. lace-decoded _ _ _ (λ _. refl) (λ _. refl) (λ _. refl) refl refl (λ _. refl) refl))

lace-decode-marked-marks : (label text marks : List ℕ)
    → Answers (decode_codes Lace) (lace.decode_marked_outcome is_host_label (length text) (length marks) label) (lace-decoding.marks_of label) marks
unfolding lace.decode_marked_outcome lace.decode_outcome decode_codes is_one_of
lace-decode-marked-marks label text marks =
    answers _ (room-good (length marks) refl
    (beside-good (length text) (length label) _ _ _ (lace-decoded _ _ label (λ _. refl) (λ _. refl) (λ _. refl) refl refl (λ _. refl) refl) (lace-marks.as_many label) (lace-laws.text-fits label)))

-- BRACE: writing never gives 5, and 1, 2 and 10 need be listed only if their tests hold
module _ (codes : List ℕ) (capacity : ℕ) (three : is_one_of codes 3 ≡ true) where
  brace-encoded : (t : List ℕ) {values : List ℕ} → length values ≡ length (brace-encoding.label_of t) → (ltb capacity 63 ≡ true → is_one_of codes 1 ≡ true)
      → (eqb (length t) 0 ≡ true → is_one_of codes 2 ≡ true) → (ltb (utf16.first_unpaired t) (length t) ≡ true → is_one_of codes 10 ≡ true)
      → Good codes (brace.encode_outcome capacity t) values capacity
  unfolding brace.encode_outcome brace.is_too_long
  brace-encoded t long one two ten =
      good-if _ _ _ one (λ room. good-if _ _ _ two (λ _. good-if _ _ _ ten (λ _.
      good-if _ _ _ (λ e. absurd (true-not-false e (label-edges t))) (λ _. good-if _ _ _ (λ _. three) (λ short.
      good-done _ (sym long) (omega (arith, ltb-false capacity 63 room, ltb-false 63 (length (brace-encoding.label_of t)) (either-false (ltb 63 (length t)) _ short).1)))))))

  points-encoded : (t : List ℕ) → is_one_of codes 1 ≡ true → is_one_of codes 2 ≡ true → (ltb (first_not_point t) (length t) ≡ true → is_one_of codes 4 ≡ true)
      → Good codes (brace-points.encode_outcome capacity t) (brace-points.label_of t) capacity
  unfolding brace-points.encode_outcome brace-points.label_of text_tests
  points-encoded t one two four =
      good-if _ _ _ (λ _. one) (λ _. good-if _ _ _ (λ _. two) (λ _. good-if _ _ _ four (λ points.
      brace-encoded (utf16.to_units t) refl (λ _. one) (λ _. two) (λ e. absurd (true-not-false e (text-unpaired t points))))))

-- reading gives units, and as many points at most
module _ (codes : List ℕ) (capacity : ℕ) (l : List ℕ)
    (one : ltb capacity 63 ≡ true → is_one_of codes 1 ≡ true) (two : eqb (length l) 0 ≡ true → is_one_of codes 2 ≡ true)
    (three : ltb 63 (length l) ≡ true → is_one_of codes 3 ≡ true) (seven : is_one_of codes 7 ≡ true) (nine : is_one_of codes 9 ≡ true) (five : is_one_of codes 5 ≡ true) where
  brace-decoded : Good codes (brace.decode_outcome capacity l) (brace-decoding.text_of l) capacity
  unfolding brace.decode_outcome
  brace-decoded =
      label-good capacity (length l) one two three (λ room short.
      good-if _ _ _ (λ _. seven) (λ _. good-if _ _ _ (λ _. five) (λ _. good-if _ _ _ (λ _. nine) (λ lawful.
      good-done _ refl (omega (arith, room, lawful-short l (not-false _ lawful)))))))

  points-decoded : Good codes (brace-points.decode_outcome capacity l) (brace-points.text_of l) capacity
  unfolding brace-points.decode_outcome brace-points.text_of and_then
  points-decoded = counted (brace.decode_outcome capacity l) brace-decoded
    where
      counted : (outcome : Outcome) → Good codes outcome (brace-decoding.text_of l) capacity
          → Good codes (and_then (λ p. p) outcome (done (length (utf16.to_points (brace-decoding.text_of l))))) (utf16.to_points (brace-decoding.text_of l)) capacity
      counted (done n) g = let c = g.counts n refl in good-done _ refl (omega (arith, length-to_points (brace-decoding.text_of l), c.0, c.1))
      counted (refused number position) g = good-refused number position (g.listed.one_of number position refl)

scheme-encode : (s : Scheme) (text label : List ℕ) → Answers (encode_codes s) (scheme.encode_outcome s (length label) text) (scheme.label_of s text) label
unfolding encode_codes is_one_of
scheme-encode Altdude text label = answers _ (altdude-encoded _ _ _ refl refl refl (λ _. refl) refl)
scheme-encode Lace text label = answers _ (lace-encoded _ _ _ refl refl refl (λ _. refl) (λ _. refl))
scheme-encode Brace text label = answers _ (points-encoded _ _ refl text refl refl (λ _. refl))

scheme-decode : (s : Scheme) (label text : List ℕ) → Answers (decode_codes s) (scheme.decode_outcome s (length text) label) (scheme.text_of s label) text
unfolding decode_codes is_one_of
scheme-decode Altdude label text = answers _ (altdude-decoded _ _ _ (λ _. refl) (λ _. refl) (λ _. refl) refl refl refl)
scheme-decode Lace label text = answers _ (lace-decoded _ _ _ (λ _. refl) (λ _. refl) (λ _. refl) refl refl (λ _. refl) refl)
scheme-decode Brace label text = answers _ (points-decoded _ _ label (λ _. refl) (λ _. refl) (λ _. refl) refl refl refl)

brace-encode : (units label : List ℕ) → Answers (1 ∷ 2 ∷ 10 ∷ 3 ∷ []) (brace.encode_outcome (length label) units) (brace-encoding.label_of units) label
unfolding is_one_of
brace-encode units label = answers _ (brace-encoded _ _ refl units refl (λ _. refl) (λ _. refl) (λ _. refl))

put-symbols : (units symbols : List ℕ) → Answers (1 ∷ 2 ∷ 10 ∷ 3 ∷ []) (brace.encode_outcome (length symbols) units) (brace-encoding.symbols_of units) symbols
unfolding brace-encoding.label_of is_one_of
put-symbols units symbols = answers _ (brace-encoded _ _ refl units (sym (length-bytes (brace-encoding.symbols_of units))) (λ _. refl) (λ _. refl) (λ _. refl))

read-body : (body units : List ℕ) → Answers (1 ∷ []) (body_outcome (length units) body) (brace-decoding.body_text body) units
unfolding body_outcome is_one_of
read-body body units =
    answers _ (good-if _ _ _ (λ _. refl) (λ room. good-done _ refl (omega (arith, body-few body, ltb-false (length units) (length body) room))))

brace-decode : (label units : List ℕ) → Answers (decode_codes Brace) (brace.decode_outcome (length units) label) (brace-decoding.text_of label) units
unfolding decode_codes is_one_of
brace-decode label units = answers _ (brace-decoded _ _ label (λ _. refl) (λ _. refl) (λ _. refl) refl refl refl)

-- the parts of a host name in turn, before what follows
in-turn-good : {codes values : List ℕ} {room : ℕ} (answer : List ℕ → Outcome) → ((part : List ℕ) → Listed codes (answer part))
    → (index : ℕ) (parts : List (List ℕ)) (next : Outcome) → Good codes next values room → Good codes (host-name.in_turn answer index parts next) values room
unfolding host-name.in_turn
in-turn-good answer each index [] next later = later
in-turn-good answer each index (part ∷ parts) next later =
    then-good _ (answer part) _ (each part) (in-turn-good answer each (suc index) parts next later)

-- writing a part: no host label is left to LACE, so 6 can't come
part-written-listed : (part : List ℕ) → Listed name_encode_codes (host-name.part_written part)
unfolding host-name.part_written name_encode_codes is_one_of
part-written-listed part =
    listed-if _ _ _ refl (λ _. listed-if _ _ _ refl (λ _.
    cases (is_host_label part) (λ e. rw e (listed-done _))
    (λ e. rw e (lace-encoded _ 63 part refl refl refl (λ _. refl) (λ h. absurd (true-not-false h e))).listed)))

name-encode : (text name : List ℕ) → Answers name_encode_codes (host-name.encode_outcome (length name) text) (host-name.name_of text) name
unfolding host-name.encode_outcome name_encode_codes is_one_of
name-encode text name =
    answers _ (good-if _ _ _ (λ _. refl) (λ room. good-if _ _ _ (λ _. refl) (λ _.
    in-turn-good host-name.part_written part-written-listed 0 (parts_of text) _ (good-if _ _ _ (λ _. refl) (λ short.
    good-done _ refl (omega (arith, ltb-false (length name) 253 room, ltb-false 253 (length (host-name.name_of text)) short)))))))

-- reading a part: only what begins lq-- is left to LACE, so 8 can't come
part-read-listed : (part : List ℕ) → Listed name_decode_codes (host-name.part_read part)
unfolding host-name.part_read host-name.lace_read host-name.plain_read name_decode_codes is_one_of
part-read-listed part =
    listed-if _ _ _ refl (λ _. cases (has_prefix prefix part)
    (λ e. rw e (then-listed _ _ _
    (lace-decoded _ 63 part (λ _. refl) (λ _. refl) (λ _. refl) refl refl (λ h. absurd (true-not-false e (not-true _ h))) refl).listed
    (listed-if _ _ _ refl (λ _. listed-done _))))
    (λ e. rw e (listed-if _ _ _ refl (λ _. listed-if _ _ _ refl (λ _. listed-if _ _ _ refl (λ _. listed-done _))))))

name-decode : (name text : List ℕ) → Answers name_decode_codes (host-name.decode_outcome (length text) name) (host-name.text_of_name name) text
unfolding host-name.decode_outcome name_decode_codes is_one_of
name-decode name text =
    answers _ (good-if _ _ _ (λ _. refl) (λ room. good-if _ _ _ (λ _. refl) (λ _. good-if _ _ _ (λ _. refl) (λ short.
    in-turn-good host-name.part_read part-read-listed 0 (parts_of name) _
    (good-done _ refl (omega (arith, ltb-false (length text) 253 room, ltb-false 253 (length name) short, name-text-fits name)))))))

-- a label in an entry
own-listed : (s : Scheme) (l : List ℕ) → 1 ≤ length l → length l ≤ 63 → Listed table_codes (scheme.decode_outcome s 63 l)
unfolding table_codes is_one_of
own-listed s l some short = by s
  where
    two : eqb (length l) 0 ≡ false
    two = ne_eqb (length l) 0 (λ e. omega arith)

    three : ltb 63 (length l) ≡ false
    three = le-ltb 63 (length l) short

    by : (s : Scheme) → Listed table_codes (scheme.decode_outcome s 63 l)
    by Altdude = (altdude-decoded _ 63 l (λ e. absurd (true-not-false e refl)) (λ e. absurd (true-not-false e two)) (λ e. absurd (true-not-false e three)) refl refl refl).listed
    by Lace = (lace-decoded _ 63 l (λ e. absurd (true-not-false e refl)) (λ e. absurd (true-not-false e two)) (λ e. absurd (true-not-false e three)) refl refl (λ _. refl) refl).listed
    by Brace = (points-decoded _ 63 l (λ e. absurd (true-not-false e refl)) (λ e. absurd (true-not-false e two)) (λ e. absurd (true-not-false e three)) refl refl refl).listed

-- one entry, whose label is to have some bytes, and no more than a long entry has room for
entry_listed : (fewest room least : ℕ) (e : List ℕ) → 1 ≤ fewest → room ≤ label_capacity → length e ≡ entry_length → Listed table_codes (entry_judged fewest room least e)
unfolding entry_judged form_tests table_codes is_one_of
entry_listed fewest room least e some small long =
    listed-if _ _ _ refl (λ _. listed-if _ _ _ refl (λ _. listed-if _ _ _ refl (λ sized. listed-if _ _ _ refl (λ _.
    let low = within_low fewest room (length_of e) (not-false _ sized) in
    let high = within-high fewest room (length_of e) (not-false _ sized) in
    let size = label-long e long (omega arith) in
    then-listed _ _ _ (own-listed (scheme_in e) (label_in e) (omega arith) (omega arith)) (listed-done _)))))

entries-listed : (index least left : ℕ) (bytes : List ℕ) (total : ℕ) → length bytes ≡ entry_length * left → Listed table_codes (entries_judged index least left bytes total)
unfolding entries_judged
entries-listed index least zero bytes total long = listed-done total
entries-listed index least (suc left) bytes total long =
    then-listed _ _ _ (entry_listed 1 63 least (take 67 bytes) (omega arith) (omega arith) (length-take-le 67 bytes (omega arith)))
    (entries-listed (suc index) (suc (reader_of bytes)) left (drop 67 bytes) total (omega (arith, length-drop 67 bytes)))

-- a header and a length, before what follows
module _ {codes : List ℕ} (cut : is_one_of codes 13 ≡ true) (malformed : is_one_of codes 14 ≡ true) {next : Outcome} where
  header-listed : (kind : ℕ) (t : List ℕ) → Listed codes next → Listed codes (header_tests kind t next)
  unfolding header_tests
  header-listed kind t later = listed-if _ _ _ cut (λ _. listed-if _ _ _ malformed (λ _. listed-if _ _ _ cut (λ _. listed-if _ _ _ malformed (λ _. later))))

  length-listed : (bytes needed : ℕ) → (bytes ≡ needed → Listed codes next) → Listed codes (length_tests bytes needed next)
  unfolding length_tests
  length-listed bytes needed later =
      listed-if _ _ _ cut (λ uncut. listed-if _ _ _ malformed (λ unlong. later (omega (arith, ltb-false bytes needed uncut, ltb-false needed bytes unlong))))

table-header : (kind : ℕ) (table : List ℕ) → Listed (13 ∷ 14 ∷ []) (header_outcome kind table)
unfolding header_outcome is_one_of
table-header kind t = header-listed refl refl kind t (listed-done _)

table-read : (table : List ℕ) → Listed table_codes (read_outcome table)
unfolding read_outcome table_codes is_one_of
table-read t =
    header-listed refl refl header_kind t (length-listed refl refl (length t) (table_length (count_of t)) (λ long.
    entries-listed 0 0 (count_of t) (drop header_length t) (count_of t) (omega (arith, length-drop 3 t))))

receiver-verdict : (chunks : List (List ℕ)) → Listed table_codes (receiver.verdict_of (receiver.received_all receiver.fresh chunks))
receiver-verdict chunks = rw (as-read-at-once chunks) (table-read (receiver.joined chunks))

-- one entry
with-one : (outcome : Outcome) → Listed table_codes outcome → Listed (1 ∷ table_codes) outcome
unfolding is_one_of
with-one outcome listed = record { one_of = λ number position e. rw (listed.one_of number position e) (cases (eqb 1 number) (λ c. rw c) (λ c. rw c)) }

found-listed : (verdict : Outcome) (count index capacity points : ℕ) → Listed table_codes verdict → Listed (1 ∷ table_codes) (found_outcome verdict count index capacity points)
unfolding found_outcome table_codes is_one_of
found-listed verdict count index capacity points listed =
    listed-if _ _ _ refl (λ _. then-listed _ _ _ (with-one verdict listed) (listed-if _ _ _ refl (λ _. listed-done points)))

read-listed : (least position : ℕ) (e : List ℕ) → length e ≡ entry_length → Listed (1 ∷ table_codes) (entry_read least position e)
unfolding entry_read
read-listed least position e long = then-listed _ _ _ (with-one _ (entry_listed 1 63 least e (omega arith) (omega arith) long)) (listed-done _)

table-entry : (table : List ℕ) (index : ℕ) (text : List ℕ) → Answers (1 ∷ table_codes) (find_outcome table index (length text)) (entry_text table index) text
unfolding find_outcome
table-entry t index text =
    answers _ (record { listed = found-listed (read_outcome t) (count_of t) index (length text) (length (entry_text t index)) (table-read t); counts = entry-counts t index (length text) })

table-lone-entry : (entry : List ℕ) (least position : ℕ) (text : List ℕ)
    → Answers (1 ∷ table_codes) (lone_entry_outcome least position (length text) entry) (text_in entry) text
unfolding lone_entry_outcome table_codes is_one_of
table-lone-entry e least position text =
    answers _ (record {
      listed = listed-if _ _ _ refl (λ _. length-listed refl refl (length e) entry_length (read-listed least position e));
      counts = λ n. lone-entry-counts least position (length text) e;
    })

table-judged-entry : (table : List ℕ) (index : ℕ) (text : List ℕ) → Answers (1 ∷ table_codes) (judged_entry_outcome table index (length text)) (entry_text table index) text
unfolding judged_entry_outcome entry_at table_codes is_one_of
table-judged-entry t index text =
    answers _ (record {
      listed = listed-if _ _ _ refl (λ _. listed-if _ _ _ refl (λ _. listed-if _ _ _ refl (λ _. listed-if _ _ _ refl (λ uncut.
          let least = ltb-false (length t) (table_length (suc index)) uncut in
          read-listed 0 index (entry_at t index) (length-take-le 67 (drop (table_length index) t) (omega (arith, length-drop (table_length index) t)))))));
      counts = judged-entry-counts t index (length text);
    })

-- a short table, whose entries are judged as the long ones that they stand for
short-entries-listed : (index least left : ℕ) (bytes : List ℕ) (total : ℕ) → Listed table_codes (short_entries_judged index least left bytes total)
unfolding short_entries_judged whole_tests short_entry_judged table_codes is_one_of
short-entries-listed index least zero bytes total = listed-if _ _ _ refl (λ _. listed-done total)
short-entries-listed index least (suc left) bytes total =
    let kind = kind_of (first_entry bytes) in
    listed-if _ _ _ refl (λ _. listed-if _ _ _ refl (λ _. listed-if _ _ _ refl (λ _.
    then-listed _ _ _ (entry_listed (fewest_of kind) (room_of kind) least (long_of (first_entry bytes)) (fewest-some kind) (room_small kind) (long-size (first_entry bytes)))
    (short-entries-listed (suc index) (suc (reader_of bytes)) left (after_first bytes) total))))

short-read : (table : List ℕ) → Listed table_codes (short_read_outcome table)
unfolding short_read_outcome table_codes is_one_of
short-read t = header-listed refl refl short_header_kind t (short-entries-listed 0 0 (count_of t) (drop header_length t) (count_of t))

short-entry : (table : List ℕ) (index : ℕ) (text : List ℕ)
    → Answers (1 ∷ table_codes) (short_find_outcome table index (length text)) (short_entry_text table index) text
unfolding short_find_outcome
short-entry t index text =
    answers _ (record {
      listed = found-listed (short_read_outcome t) (count_of t) index (length text) (length (short_entry_text t index)) (short-read t);
      counts = λ n. short-entry-counts t index (length text);
    })

-- a table with this verdict that is moved
moved-good : (verdict : Outcome) (values : List ℕ) (room : ℕ) → Listed table_codes verdict → Good (1 ∷ table_codes) (move_outcome verdict (length values) room) values room
unfolding move_outcome and_then is_one_of
moved-good (done n) values room listed = good-if _ _ _ (λ _. refl) (λ fits. good-done _ refl (ltb-false room (length values) fits))
moved-good (refused number position) values room listed = good-refused number position ((with-one _ listed).one_of number position refl)

to-short : (table moved : List ℕ) → Answers (1 ∷ table_codes) (to_short_outcome table (length moved)) (short.to_short table) moved
unfolding to_short_outcome
to-short t moved = answers _ (moved-good (read_outcome t) (short.to_short t) (length moved) (table-read t))

to-long : (table moved : List ℕ) → Answers (1 ∷ table_codes) (to_long_outcome table (length moved)) (short.to_long table) moved
unfolding to_long_outcome
to-long t moved = answers _ (moved-good (short_read_outcome t) (short.to_long t) (length moved) (short-read t))

-- a list that is written
text-listed : (s : Scheme) (t : List ℕ) → Listed table_write_codes (scheme.encode_outcome s 63 t)
unfolding table_write_codes is_one_of
text-listed Altdude t = (altdude-encoded _ 63 t refl refl refl (λ _. refl) refl).listed
text-listed Lace t = (lace-encoded _ 63 t refl refl refl (λ _. refl) (λ _. refl)).listed
text-listed Brace t = (points-encoded _ 63 refl t refl refl (λ _. refl)).listed

entries-write-listed : (index least : ℕ) (es : List writing.Entry) (total : ℕ) → Listed table_write_codes (writing.entries_written index least es total)
unfolding writing.entries_written writing.entry_written table_write_codes is_one_of
entries-write-listed index least [] total = listed-done total
entries-write-listed index least (writing.entry reader number text ∷ es) total =
    then-listed _ _ _ (listed-if _ _ _ refl (λ _. listed-if _ _ _ refl (λ _. text-listed (writing.scheme_of number) text))) (entries-write-listed (suc index) _ es total)

table-write : (readers schemes lengths points table : List ℕ)
    → Answers table_write_codes (writing.write_outcome (length table) readers schemes lengths points) (writing.table_of (writing.entries_of readers schemes lengths points)) table
unfolding writing.write_outcome writing.list_tests table_write_codes is_one_of
table-write readers schemes lengths points table =
    answers _ (record {
      listed = listed-if _ _ _ refl (λ _. listed-if _ _ _ refl (λ _. listed-if _ _ _ refl (λ _. listed-if _ _ _ refl (λ _. listed-if _ _ _ refl (λ _. entries-write-listed 0 0 _ _)))));
      counts = λ n e. written-counts (length table) readers schemes lengths points e;
    })

-- lines
put-line : (line out : List ℕ) → Answers (1 ∷ []) (line_outcome line (length out)) line out
unfolding line_outcome is_one_of
put-line line out = answers _ (good-if _ _ _ (λ _. refl) (λ room. good-done _ refl (ltb-false (length out) (length line) room)))

-- the number of a table's refusal is 14 at most
one-of-small : (codes : List ℕ) (most number : ℕ) → AllBelow most codes → is_one_of codes number ≡ true → number < most
unfolding is_one_of
one-of-small [] most number below e = absurd (true-not-false e refl)
one-of-small (code ∷ codes) most number below e =
    cases (eqb code number) (λ s. omega (arith, eqb-true code number s, below 0 (omega arith)))
    (λ s. one-of-small codes most number (λ i h. below (suc i) (omega arith)) (rw s at e))

verdict-listed : (t : List ℕ) → Listed table_codes (verdict_of t)
unfolding verdict_of
verdict-listed t = cases (is_short t) (λ s. rw s (short-read t)) (λ s. rw s (table-read t))

verdict-number : (t : List ℕ) (number position : ℕ) → verdict_of t ≡ refused number position → number < 15
unfolding table_codes every both
verdict-number t number position e =
    one-of-small table_codes 15 number (λ i h. ltb-true _ _ (at_each 7 (λ i. ltb (at table_codes i) 15) refl i h)) ((verdict-listed t).one_of number position e)

-- so whatever the tables, there is room for the report
report-few : (left right : List ℕ) → length (report_of left right) ≤ report_capacity
unfolding left_word right_word
report-few left right = by (verdict_of left) (verdict_of right) refl refl
  where
    by : (l r : Outcome) → verdict_of left ≡ l → verdict_of right ≡ r → length (report_of left right) ≤ report_capacity
    by (refused number position) r e f =
        rw (refused-left left right number position e)
        (refusal-fits left_word number position (omega arith) (omega (arith, verdict-number left number position e)) (omega (arith, verdict-placed left number position e)))
    by (done m) (refused number position) e f =
        rw (refused-right left right m number position e f)
        (refusal-fits right_word number position (omega arith) (omega (arith, verdict-number right number position f)) (omega (arith, verdict-placed right number position f)))
    by (done m) (done n) e f = whole_room left right m n e f

difference-report : (left right report : List ℕ) → Answers (1 ∷ []) (report_outcome left right (length report)) (report_of left right) report
unfolding report_outcome is_one_of
difference-report left right report =
    answers _ (good-if _ _ _ (λ _. refl) (λ room. good-done _ refl (omega (arith, report-few left right, ltb-false (length report) report_capacity room))))

difference-report-settled : (left right : List ℕ) (capacity : ℕ)
    → Settles (whole 1 (capacity < report_capacity) ∷ []) (length (report_of left right)) (report_outcome left right capacity)
unfolding report_outcome
difference-report-settled left right capacity = settle-whole _ 1 (ltb_iff capacity report_capacity) (λ _. settle-done _)

-- units of which none is unpaired make points
never-four : (units : List ℕ) → AllBelow 65536 units → ltb (utf16.first_unpaired units) (length units) ≡ false
    → ltb (first_not_point (utf16.to_points units)) (length (utf16.to_points units)) ≡ false
unfolding utf16.first_unpaired first_not_point is_text
never-four units below paired =
    let ps = utf16.to_points units in
    let e : utf16.first_unpaired units ≡ length units = omega (arith, first-le (length units) (utf16.unpaired_at 0 units), ltb-false (utf16.first_unpaired units) (length units) paired) in
    le-ltb (first_not_point ps) (length ps) (omega (arith, (none-iff (length ps) (λ i. is_point (get_or ps i 0))).1 (units-text units below e)))

write-units : (s : Scheme) (capacity : ℕ) (units : List ℕ) → AllBelow 65536 units
    → Good write_codes (utf16-answer.refused_unpaired units (scheme.encode_outcome s capacity (utf16.to_points units))) (scheme.label_of s (utf16.to_points units)) capacity
unfolding utf16-answer.refused_unpaired write_codes is_one_of
write-units Altdude capacity units below =
    good-if _ _ _ (λ _. refl) (λ paired. altdude-encoded _ _ _ refl refl refl (λ e. absurd (true-not-false e (never-four units below paired))) refl)
write-units Lace capacity units below =
    good-if _ _ _ (λ _. refl) (λ paired. lace-encoded _ _ _ refl refl refl (λ e. absurd (true-not-false e (never-four units below paired))) (λ _. refl))
write-units Brace capacity units below =
    good-if _ _ _ (λ _. refl) (λ paired. points-encoded _ _ refl _ refl refl (λ e. absurd (true-not-false e (never-four units below paired))))

firmware-write : (number : ℕ) (text label : List ℕ) → AllBelow 256 text
    → Answers write_codes (write_outcome number (length label) text) (written_label number text) label
unfolding write_outcome written_label write_by points_of write_codes is_one_of
firmware-write number text label below =
    answers _ (good-if _ _ _ (λ _. refl) (λ _.
    good-if _ _ _ (λ _. refl) (λ _. good-if _ _ _ (λ _. refl) (λ _. good-if _ _ _ (λ _. refl) (λ _. good-if _ _ _ (λ _. refl) (λ _.
    write-units (scheme_named (number_names number)) (length label) (units_of_bytes text) (below-units_of_bytes text below)))))))

-- a text of at most 63 points as bytes
bytes_good : {codes : List ℕ} {room : ℕ} (outcome : Outcome) (text : List ℕ) → Good codes outcome text 63 → 252 ≤ room
    → Good codes (and_then (λ p. p) outcome (done (length (bytes_of text)))) (bytes_of text) room
unfolding and_then
bytes_good (done n) text g room =
    let c = g.counts n refl in
    good-done _ refl (omega (arith, length-bytes_of text, c.0, c.1))
bytes_good (refused number position) text g room = good-refused number position (g.listed.one_of number position refl)

read-label : (s : Scheme) (room : ℕ) (label : List ℕ) → 252 ≤ room
    → Good read_codes (and_then (λ p. p) (scheme.decode_outcome s 63 label) (done (length (bytes_of (scheme.text_of s label))))) (bytes_of (scheme.text_of s label)) room
unfolding read_codes is_one_of
read-label Altdude room label h = bytes_good _ _ (altdude-decoded _ _ _ (λ _. refl) (λ _. refl) (λ _. refl) refl refl refl) h
read-label Lace room label h = bytes_good _ _ (lace-decoded _ _ _ (λ _. refl) (λ _. refl) (λ _. refl) refl refl (λ _. refl) refl) h
read-label Brace room label h = bytes_good _ _ (points-decoded _ _ label (λ _. refl) (λ _. refl) (λ _. refl) refl refl refl) h

firmware-read : (number : ℕ) (label text : List ℕ)
    → Answers read_codes (firmware.read_outcome number (length text) label) (read_text number label) text
unfolding firmware.read_outcome read_text read_by read_codes is_one_of
firmware-read number label text =
    answers _ (good-if _ _ _ (λ _. refl) (λ _. good-if _ _ _ (λ _. refl) (λ room. read-label (scheme_named (number_names number)) (length text) label (ltb-false (length text) 252 room))))

-- a table that is cut
cut-read : (t : List ℕ) → Cut t → read_outcome t ≡ refused 13 0
cut-read t c = cut-table t c.kind c.header refl c.some c.few c.short

-- a table of the other form
module _ (rest : List ℕ) where
  other-read : read_outcome (0x49 ∷ rest) ≡ refused 14 0
  unfolding read_outcome
  other-read = other-kind header_kind (0x49 ∷ rest) _ (λ e. omega arith) (λ e. omega arith)

  other-short-read : short_read_outcome (0x48 ∷ rest) ≡ refused 14 0
  unfolding short_read_outcome
  other-short-read = other-kind short_header_kind (0x48 ∷ rest) _ (λ e. omega arith) (λ e. omega arith)

  other-form : OtherForm rest
  unfolding short_find_outcome to_short_outcome to_long_outcome
  other-form = record {
    read = other-read;
    entry = λ index capacity room. find-refused (0x49 ∷ rest) index capacity room other-read;
    to_short = λ capacity. move-refused _ _ _ other-read;
    short_read = other-short-read;
    short_entry = λ index capacity room. found-refused _ _ _ _ _ room other-short-read;
    to_long = λ capacity. move-refused _ _ _ other-short-read;
  }

-- what the one number says
tells : (most : ℕ) (outcome : Outcome) → most < 1000 → ((n : ℕ) → outcome ≡ done n → 1 ≤ n) → basis.count_of outcome ≤ most → Tells most outcome
unfolding answer_of basis.count_of
tells most (done n) below some few = record { counts = λ h. (refl, omega (arith, some n refl), few); refuses = λ number e. absurd (omega arith) }
tells most (refused k p) below some few = record {
  counts = λ h. absurd (omega arith);
  refuses = λ number e. let q : k ≡ number = omega arith in (p, ap (λ (x : ℕ). refused x p) q);
}

pub demand1 : Demand1
unfolding naming.kind_of naming.number_of row_of
demand1 = record {
  to_units = to-units;
  to_points = to-points;
  points_to_bytes = points-to-bytes;
  units_to_bytes = units-to-bytes;
  bytes_to_units = bytes-to-units;
  bytes_to_points = bytes-to-points;
  to_units_order = to-units-settled;
  to_points_order = to-points-settled;
  points_to_bytes_order = points-to-bytes-settled;
  units_to_bytes_order = units-to-bytes-settled;
  bytes_to_units_order = bytes-to-units-settled;
  bytes_to_points_order = bytes-to-points-settled;
  base32_encode = base32-encode;
  base32_decode = base32-decode;
  base32_encode_order = encode-settled;
  base32_decode_order = decode-settled;
  check_text = check-text;
  check_marked = check-marked;
  check_label = check-label;
  altdude_encode = scheme-encode Altdude;
  altdude_decode = scheme-decode Altdude;
  altdude_encode_marked = altdude-encode-marked;
  altdude_decode_marked_text = altdude-decode-marked-text;
  altdude_decode_marked_marks = altdude-decode-marked-marks;
  lace_encode = scheme-encode Lace;
  lace_decode = scheme-decode Lace;
  lace_encode_marked = lace-encode-marked;
  lace_decode_marked_text = lace-decode-marked-text;
  lace_decode_marked_marks = lace-decode-marked-marks;
  brace_encode = brace-encode;
  brace_decode = brace-decode;
  brace_put_symbols = put-symbols;
  brace_read_body = read-body;
  brace_points_encode = scheme-encode Brace;
  brace_points_decode = scheme-decode Brace;
  scheme_encode = scheme-encode;
  scheme_decode = scheme-decode;
  name_encode = name-encode;
  name_decode = name-decode;
  table_header = table-header;
  table_read = table-read;
  table_entry = table-entry;
  table_lone_entry = table-lone-entry;
  table_judged_entry = table-judged-entry;
  table_write = table-write;
  table_header_order = header-alone-settled;
  table_read_order = read-settled;
  table_entry_order = find-settled;
  table_lone_entry_order = lone-entry-settled;
  table_judged_entry_order = judged-entry-settled;
  table_write_order = write-settled;
  table_judged_entry_agrees = λ t n index capacity read. judged-as-found t n read index capacity;
  unknown_kinds = λ e. (
    λ u.
        let altdude : kind_of e ≡ 0x41 → ⊥ = u Altdude in
        let lace : kind_of e ≡ 0x4c → ⊥ = u Lace in
        let brace : kind_of e ≡ 0x42 → ⊥ = u Brace in (λ k. omega arith, λ k. omega arith, λ k. omega arith),
    λ d. by-scheme (λ s. kind_of e ≡ naming.kind_of s → ⊥) d.0 d.1 d.2,
  );
  unknown_schemes = λ number. (λ u. (u Altdude, u Lace, u Brace), λ d. by-scheme (λ s. number ≡ naming.number_of s → ⊥) d.0 d.1 d.2);
  receiver_order = verdict-settled;
  receiver_verdict = receiver-verdict;
  short_read = short-read;
  short_entry = short-entry;
  to_short = to-short;
  to_long = to-long;
  short_read_order = short-read-settled;
  short_entry_order = short-find-settled;
  to_short_order = to-short-settled;
  to_long_order = to-long-settled;
  other_form = other-form;
  write = firmware-write;
  write_tells = λ number capacity text. tells _ _ (omega arith) (written-some number capacity text) (omega (arith, write-few number capacity text));
  read = firmware-read;
  read_tells = λ number capacity label. tells _ _ (omega arith) (read_some number capacity label) (omega (arith, read-few number capacity label));
  unknown_numbers = λ number. (
    λ u. let zero : number ≡ 0 → ⊥ = u.0 in let altdude : number ≡ 1 → ⊥ = u.1 Altdude in let lace : number ≡ 2 → ⊥ = u.1 Lace in let brace : number ≡ 3 → ⊥ = u.1 Brace in omega arith,
    λ h. (λ e. omega arith, by-scheme (λ s. number ≡ naming.number_of s → ⊥) (λ e. omega arith) (λ e. omega arith) (λ e. omega arith)),
  );
  list_lines = λ reader letter points. put-line (list_line reader letter points);
  points_lines = λ points. put-line (points_line points);
  refused_at_lines = λ code position. put-line (refused_at_line code position);
  refused_lines = λ code. put-line (refused_line code);
  side_refused_lines = λ side code position. put-line (side_refused_line side code position);
  difference_lines = λ reader words. put-line (difference_line reader words);
  counts_lines = λ same other respelled left right. put-line (counts_line same other respelled left right);
  difference_report = difference-report;
  difference_report_order = difference-report-settled;
  cut_read = cut-read;
  cut_entry = λ t c index capacity room. find-refused t index capacity room (cut-read t c);
  prefix_read = λ t n k e h. prefix-truncated t n k e (omega (arith, h));
  prefix_entry = λ t n k e h index capacity room. find-refused (take k t) index capacity room (prefix-truncated t n k e h);
}
