-- Demand 1: what every public function answers and leaves, whatever it is given, and that a table that is cut is refused as cut. The outcomes and
-- the values are the definitions that the contracts cite. The order of the refusals is that of their tests; by causes it is said of the
-- conversions, of Base32, of the tables, of a receiver and of the report on two tables here, of the schemes and the C interface in
-- demand 2, of the schemes with marks in Marks.antt, and of host names in HostNames.antt. That a call ends and stays inside what it was
-- passed is what the checker proves of each function.
use Rattle.std.specs.Prelude.{ℕ, ◌+◌, ◌*◌, ◌≤◌, ◌<◌, ◌≡◌, Bool, true, false, ◌||◌, ◌↔◌, List, [], ◌∷◌, eqb, length, take, drop}
use Rattle.basis.specs.Rows.{at, AllBelow}
use Rattle.basis.specs.Outcome.{Outcome, done, refused, count_of, buffer_after}
use Rattle.basis.specs.Causes.{whole, Settles}
use Rattle.ascii.specs.Ldh.{is_host_label}
use Rattle.utf16.specs.Units as utf16
use Rattle.utf16.specs.Bytes.{units_of_bytes, bytes_of_units, points_of, bytes_of}
use Rattle.utf16.specs.Answer as utf16-answer
use Rattle.utf16.specs.Causes.{to_units_causes, to_points_causes, points_to_bytes_causes, units_to_bytes_causes, bytes_to_units_causes, bytes_to_points_causes}
use Rattle.alphabet.specs.Alphabet as alphabet
use Rattle.base32.specs.Form.{octet_count}
use Rattle.base32.specs.Base32.{quintet_count, characters_of, to_octets}
use Rattle.base32.specs.Answer as base32
use Rattle.base32.specs.Causes.{encode_causes, decode_causes}
use Rattle.labels.specs.Tests.{text_tests, label_tests}
use Rattle.labels.specs.Marks.{marks_tests}
use Rattle.altdude.specs.Encoding as altdude-encoding
use Rattle.altdude.specs.Decoding as altdude-decoding
use Rattle.altdude.specs.Marks as altdude-marking
use Rattle.altdude.specs.Answer as altdude
use Rattle.lace_encoding.specs.Encoding as lace-encoding
use Rattle.lace_decoding.specs.Decoding as lace-decoding
use Rattle.lace.specs.Answer as lace
use Rattle.brace_symbols.specs.Encoding as brace-encoding
use Rattle.brace_text.specs.Decoding as brace-decoding
use Rattle.brace_text.specs.Answer.{body_outcome}
use Rattle.brace.specs.Answer as brace
use Rattle.brace.specs.Points as brace-points
use Rattle.scheme.specs.declared.Scheme.{Scheme}
use Rattle.scheme.specs.declared.Scheme.TheVariants.{Altdude, Lace, Brace}
use Rattle.scheme.specs.Coding as scheme
use Rattle.host_name.specs.Answer as host-name
use Rattle.nametable_format.specs.Format as nametable
use Rattle.nametable.specs.Answer.{header_outcome, read_outcome, find_outcome, lone_entry_outcome, judged_entry_outcome, text_in, entry_text}
use Rattle.nametable_write.specs.Writing as writing
use Rattle.nametable_facts.specs.Causes.{UnknownKind, UnknownScheme, header_causes, table_causes, find_causes, lone_entry_causes, judged_entry_causes, write_causes}
use Rattle.nametable_receiver.specs.Receiving.{State, fresh, received_all, verdict_of}
use Rattle.nametable_receiver_facts.specs.Causes.{verdict_causes}
use Rattle.nametable_short.specs.Answer.{short_read_outcome, short_find_outcome, short_entry_text, to_short_outcome, to_long_outcome}
use Rattle.nametable_short.specs.Answer as short
use Rattle.nametable_short_facts.specs.Causes.{short_table_causes, short_find_causes, to_short_causes, to_long_causes}
use Rattle.firmware.specs.Answer.{answer_of, write_outcome, written_label, read_text}
use Rattle.firmware.specs.Answer as firmware
use Rattle.firmware.specs.Causes.{UnknownNumber}
use Rattle.report.specs.Lines.{list_line, points_line, refused_at_line, refused_line, side_refused_line, difference_line, counts_line}
use Rattle.report.specs.Answer.{line_outcome}
use Rattle.nametable_differences.specs.Report.{report_of, report_capacity, report_outcome}

-- the number is one of the codes
unfoldable pub is_one_of : List ℕ → ℕ → Bool
is_one_of [] number = false
is_one_of (code ∷ codes) number = eqb code number || is_one_of codes number

-- an outcome is done, or refused with one of the codes
pub record Listed (codes : List ℕ) (outcome : Outcome) : Type 0 where
  pub one_of : (number position : ℕ) → outcome ≡ refused number position → is_one_of codes number ≡ true

-- a function with this outcome, that writes these values into this buffer
pub record Answers (codes : List ℕ) (outcome : Outcome) (values buffer : List ℕ) : Type 0 where
  -- it is done, or refuses with one of the codes
  pub listed : Listed codes outcome
  -- a refusal writes nothing
  pub untouched : (number position : ℕ) → outcome ≡ refused number position → buffer_after outcome values buffer ≡ buffer
  -- if it is done, the values are before the count
  pub written : (count : ℕ) → outcome ≡ done count → take count (buffer_after outcome values buffer) ≡ values
  -- the count, 0 of a refusal, is within the buffer, which is as long as before, and nothing changes from the count on
  pub within : count_of outcome ≤ length buffer
  pub as_long : length (buffer_after outcome values buffer) ≡ length buffer
  pub unchanged : drop (count_of outcome) (buffer_after outcome values buffer) ≡ drop (count_of outcome) buffer

-- the one number of an outcome says which it is: below 1000 a count, 1 to this one, and else 1000 plus the refusal's number
pub record Tells (most : ℕ) (outcome : Outcome) : Type 0 where
  pub counts : answer_of outcome < 1000 → (outcome ≡ done (answer_of outcome)) × (1 ≤ answer_of outcome) × (answer_of outcome ≤ most)
  pub refuses : (number : ℕ) → answer_of outcome ≡ 1000 + number → (position : ℕ) × (outcome ≡ refused number position)

-- the numbers of each scheme, writing and reading; 5 can't come from writing BRACE, since none of its
-- labels begins or ends with a hyphen
unfoldable pub encode_codes : Scheme → List ℕ
encode_codes Altdude = 1 ∷ 2 ∷ 4 ∷ 5 ∷ 3 ∷ []
encode_codes Lace = 1 ∷ 2 ∷ 4 ∷ 6 ∷ 3 ∷ []
encode_codes Brace = 1 ∷ 2 ∷ 4 ∷ 3 ∷ []

unfoldable pub decode_codes : Scheme → List ℕ
decode_codes Altdude = 1 ∷ 2 ∷ 3 ∷ 7 ∷ 5 ∷ 9 ∷ []
decode_codes Lace = 1 ∷ 2 ∷ 3 ∷ 8 ∷ 7 ∷ 9 ∷ 6 ∷ []
decode_codes Brace = 1 ∷ 2 ∷ 3 ∷ 7 ∷ 5 ∷ 9 ∷ []

-- of a host name: its own and LACE's; 6 can't come from writing, since a host label is copied, nor 8 from reading, since a label
-- without lq-- is plain
unfoldable pub name_encode_codes : List ℕ
name_encode_codes = 1 ∷ 2 ∷ 16 ∷ 4 ∷ 3 ∷ []

unfoldable pub name_decode_codes : List ℕ
name_decode_codes = 1 ∷ 2 ∷ 3 ∷ 7 ∷ 5 ∷ 9 ∷ 6 ∷ 16 ∷ []

-- of a table: its own, and those of a label of 1 to 63 bytes
unfoldable pub table_codes : List ℕ
table_codes = 13 ∷ 14 ∷ 7 ∷ 5 ∷ 8 ∷ 9 ∷ 6 ∷ []

-- of writing a table: its own, and those of a text
unfoldable pub table_write_codes : List ℕ
table_write_codes = 1 ∷ 14 ∷ 2 ∷ 4 ∷ 5 ∷ 6 ∷ 3 ∷ []

-- of the C interface: 4 can't come, since paired units make points
unfoldable pub write_codes : List ℕ
write_codes = 11 ∷ 1 ∷ 12 ∷ 2 ∷ 3 ∷ 10 ∷ 5 ∷ 6 ∷ []

unfoldable pub read_codes : List ℕ
read_codes = 11 ∷ 1 ∷ 2 ∷ 3 ∷ 8 ∷ 7 ∷ 5 ∷ 9 ∷ 6 ∷ []

-- a table whose header is lawful, and that is shorter than its count asks
pub record Cut (table : List ℕ) : Type 0 where
  pub kind : at table 0 ≡ 0x48
  pub header : 3 ≤ length table
  pub some : 1 ≤ nametable.count_of table
  pub few : nametable.count_of table ≤ 500
  pub short : length table < 3 + 67 * nametable.count_of table

-- what reading, one entry by index and moving answer in each form to a table that begins as the
-- other form does: 14 at 0, for one entry by index given the room
pub record OtherForm (rest : List ℕ) : Type 0 where
  pub read : read_outcome (0x49 ∷ rest) ≡ refused 14 0
  pub entry : (index capacity : ℕ) → 63 ≤ capacity → find_outcome (0x49 ∷ rest) index capacity ≡ refused 14 0
  pub to_short : (capacity : ℕ) → to_short_outcome (0x49 ∷ rest) capacity ≡ refused 14 0
  pub short_read : short_read_outcome (0x48 ∷ rest) ≡ refused 14 0
  pub short_entry : (index capacity : ℕ) → 63 ≤ capacity → short_find_outcome (0x48 ∷ rest) index capacity ≡ refused 14 0
  pub to_long : (capacity : ℕ) → to_long_outcome (0x48 ∷ rest) capacity ≡ refused 14 0

-- every public function that can refuse, by name
pub record Demand1 : Type 0 where
  -- utf16
  pub to_units : (points : List ℕ) (count : ℕ) (units : List ℕ)
      → Answers (1 ∷ 4 ∷ []) (utf16-answer.to_units_outcome points count (length units)) (utf16.to_units (take count points)) units
  pub to_points : (units : List ℕ) (count : ℕ) (points : List ℕ)
      → Answers (1 ∷ 10 ∷ []) (utf16-answer.to_points_outcome units count (length points)) (utf16.to_points (take count units)) points
  pub points_to_bytes : (points : List ℕ) (count : ℕ) (bytes : List ℕ)
      → Answers (1 ∷ 4 ∷ []) (utf16-answer.points_to_bytes_outcome points count (length bytes)) (bytes_of (take count points)) bytes
  pub units_to_bytes : (units : List ℕ) (count : ℕ) (bytes : List ℕ)
      → Answers (1 ∷ []) (utf16-answer.units_to_bytes_outcome units count (length bytes)) (bytes_of_units (take count units)) bytes
  pub bytes_to_units : (bytes units : List ℕ)
      → Answers (1 ∷ 12 ∷ []) (utf16-answer.bytes_to_units_outcome bytes (length units)) (units_of_bytes bytes) units
  pub bytes_to_points : (bytes points : List ℕ)
      → Answers (12 ∷ 1 ∷ 10 ∷ []) (utf16-answer.bytes_to_points_outcome bytes (length points)) (points_of bytes) points
  -- its order: 1, then 4, 10 or 12; of bytes to points 12 first
  pub to_units_order : (points : List ℕ) (count capacity : ℕ)
      → Settles (to_units_causes points count capacity) (length (utf16.to_units (take count points))) (utf16-answer.to_units_outcome points count capacity)
  pub to_points_order : (units : List ℕ) (count capacity : ℕ)
      → Settles (to_points_causes units count capacity) (length (utf16.to_points (take count units))) (utf16-answer.to_points_outcome units count capacity)
  pub points_to_bytes_order : (points : List ℕ) (count capacity : ℕ)
      → Settles (points_to_bytes_causes points count capacity) (length (bytes_of (take count points))) (utf16-answer.points_to_bytes_outcome points count capacity)
  pub units_to_bytes_order : (units : List ℕ) (count capacity : ℕ)
      → Settles (units_to_bytes_causes units count capacity) (length (bytes_of_units (take count units))) (utf16-answer.units_to_bytes_outcome units count capacity)
  pub bytes_to_units_order : (bytes : List ℕ) (capacity : ℕ)
      → Settles (bytes_to_units_causes bytes capacity) (length (units_of_bytes bytes)) (utf16-answer.bytes_to_units_outcome bytes capacity)
  pub bytes_to_points_order : (bytes : List ℕ) (capacity : ℕ)
      → Settles (bytes_to_points_causes bytes capacity) (length (points_of bytes)) (utf16-answer.bytes_to_points_outcome bytes capacity)
  -- base32
  pub base32_encode : (octets characters : List ℕ)
      → Answers (1 ∷ []) (base32.encode_outcome octets (length characters)) (characters_of alphabet.lace octets) characters
  pub base32_decode : (characters octets : List ℕ)
      → Answers (1 ∷ 7 ∷ 9 ∷ []) (base32.decode_outcome characters (length octets)) (to_octets (alphabet.values_of alphabet.lace characters)) octets
  -- its order: 1, then 7 and 9 of reading
  pub base32_encode_order : (octets : List ℕ) (capacity : ℕ) → Settles (encode_causes octets capacity) (quintet_count (length octets)) (base32.encode_outcome octets capacity)
  pub base32_decode_order : (characters : List ℕ) (capacity : ℕ)
      → Settles (decode_causes characters capacity) (octet_count (length characters)) (base32.decode_outcome characters capacity)
  -- labels: what the first tests answer where nothing follows
  pub check_text : (capacity : ℕ) (text : List ℕ) → Listed (1 ∷ 2 ∷ 4 ∷ []) (text_tests capacity text (done 0))
  pub check_marked : (keeps : Bool) (capacity : ℕ) (text marks : List ℕ)
      → Listed (1 ∷ 2 ∷ 4 ∷ 15 ∷ []) (text_tests capacity text (marks_tests keeps text marks (done 0)))
  pub check_label : (capacity bytes : ℕ) → Listed (1 ∷ 2 ∷ 3 ∷ []) (label_tests capacity bytes (done 0))
  -- altdude and lace, each also with marks, of which decoding leaves one row in each of two buffers; brace of units and of points; and
  -- by scheme
  pub altdude_encode : (text label : List ℕ)
      → Answers (encode_codes Altdude) (altdude.encode_outcome (length label) text) (altdude-encoding.label_of text) label
  pub altdude_decode : (label text : List ℕ)
      → Answers (decode_codes Altdude) (altdude.decode_outcome (length text) label) (altdude-decoding.text_of label) text
  pub altdude_encode_marked : (text marks label : List ℕ)
      → Answers (1 ∷ 2 ∷ 4 ∷ 15 ∷ 5 ∷ 3 ∷ []) (altdude.encode_marked_outcome (length label) text marks) (altdude-marking.marked marks (altdude-encoding.label_of text)) label
  pub altdude_decode_marked_text : (label text marks : List ℕ)
      → Answers (decode_codes Altdude) (altdude.decode_marked_outcome (length text) (length marks) label) (altdude-decoding.text_of label) text
  pub altdude_decode_marked_marks : (label text marks : List ℕ)
      → Answers (decode_codes Altdude) (altdude.decode_marked_outcome (length text) (length marks) label) (altdude-marking.marks_of label) marks
  pub lace_encode : (text label : List ℕ)
      → Answers (encode_codes Lace) (lace.encode_outcome is_host_label (length label) text) (lace-encoding.label_of text) label
  pub lace_decode : (label text : List ℕ)
      → Answers (decode_codes Lace) (lace.decode_outcome is_host_label (length text) label) (lace-decoding.text_of label) text
  pub lace_encode_marked : (text marks label : List ℕ)
      → Answers (1 ∷ 2 ∷ 4 ∷ 15 ∷ 6 ∷ 3 ∷ []) (lace.encode_marked_outcome is_host_label (length label) text marks) (lace-encoding.label_of text) label
  pub lace_decode_marked_text : (label text marks : List ℕ)
      → Answers (decode_codes Lace) (lace.decode_marked_outcome is_host_label (length text) (length marks) label) (lace-decoding.text_of label) text
  pub lace_decode_marked_marks : (label text marks : List ℕ)
      → Answers (decode_codes Lace) (lace.decode_marked_outcome is_host_label (length text) (length marks) label) (lace-decoding.marks_of label) marks
  pub brace_encode : (units label : List ℕ)
      → Answers (1 ∷ 2 ∷ 10 ∷ 3 ∷ []) (brace.encode_outcome (length label) units) (brace-encoding.label_of units) label
  pub brace_decode : (label units : List ℕ)
      → Answers (decode_codes Brace) (brace.decode_outcome (length units) label) (brace-decoding.text_of label) units
  pub brace_put_symbols : (units symbols : List ℕ)
      → Answers (1 ∷ 2 ∷ 10 ∷ 3 ∷ []) (brace.encode_outcome (length symbols) units) (brace-encoding.symbols_of units) symbols
  pub brace_read_body : (body units : List ℕ)
      → Answers (1 ∷ []) (body_outcome (length units) body) (brace-decoding.body_text body) units
  pub brace_points_encode : (text label : List ℕ)
      → Answers (encode_codes Brace) (brace-points.encode_outcome (length label) text) (brace-points.label_of text) label
  pub brace_points_decode : (label text : List ℕ)
      → Answers (decode_codes Brace) (brace-points.decode_outcome (length text) label) (brace-points.text_of label) text
  pub scheme_encode : (s : Scheme) (text label : List ℕ)
      → Answers (encode_codes s) (scheme.encode_outcome s (length label) text) (scheme.label_of s text) label
  pub scheme_decode : (s : Scheme) (label text : List ℕ)
      → Answers (decode_codes s) (scheme.decode_outcome s (length text) label) (scheme.text_of s label) text
  -- host_name
  pub name_encode : (text name : List ℕ)
      → Answers name_encode_codes (host-name.encode_outcome (length name) text) (host-name.name_of text) name
  pub name_decode : (name text : List ℕ)
      → Answers name_decode_codes (host-name.decode_outcome (length text) name) (host-name.text_of_name name) text
  -- nametable: `header` and `read` are passed no buffer to write
  pub table_header : (kind : ℕ) (table : List ℕ) → Listed (13 ∷ 14 ∷ []) (header_outcome kind table)
  pub table_read : (table : List ℕ) → Listed table_codes (read_outcome table)
  pub table_entry : (table : List ℕ) (index : ℕ) (text : List ℕ)
      → Answers (1 ∷ table_codes) (find_outcome table index (length text)) (entry_text table index) text
  pub table_lone_entry : (entry : List ℕ) (least position : ℕ) (text : List ℕ)
      → Answers (1 ∷ table_codes) (lone_entry_outcome least position (length text) entry) (text_in entry) text
  pub table_judged_entry : (table : List ℕ) (index : ℕ) (text : List ℕ)
      → Answers (1 ∷ table_codes) (judged_entry_outcome table index (length text)) (entry_text table index) text
  pub table_write : (readers schemes lengths points table : List ℕ)
      → Answers table_write_codes (writing.write_outcome (length table) readers schemes lengths points) (writing.table_of (writing.entries_of readers schemes lengths points)) table
  -- its order: the header's, then entry by entry, and for one entry 1 before and the index after
  pub table_header_order : (kind : ℕ) (table : List ℕ) → Settles (header_causes kind table []) (nametable.count_of table) (header_outcome kind table)
  pub table_read_order : (table : List ℕ) → Settles (table_causes table) (nametable.count_of table) (read_outcome table)
  pub table_entry_order : (table : List ℕ) (index capacity : ℕ)
      → Settles (find_causes table index capacity) (length (entry_text table index)) (find_outcome table index capacity)
  -- of an entry without its table: 1, the length, then the entry's own
  pub table_lone_entry_order : (least position capacity : ℕ) (entry : List ℕ)
      → Settles (lone_entry_causes least position capacity entry) (length (text_in entry)) (lone_entry_outcome least position capacity entry)
  -- of a table that was judged: 1, the header, the index, the length, then the entry's own
  pub table_judged_entry_order : (table : List ℕ) (index capacity : ℕ)
      → Settles (judged_entry_causes table index capacity) (length (entry_text table index)) (judged_entry_outcome table index capacity)
  -- of a list that is written: 1, the rows, then entry by entry
  pub table_write_order : (capacity : ℕ) (readers schemes lengths points : List ℕ)
      → Settles (write_causes capacity readers schemes lengths points) (nametable.table_length (length readers)) (writing.write_outcome capacity readers schemes lengths points)
  -- `judged_entry` answers as `entry` does if the table reads whole
  pub table_judged_entry_agrees : (table : List ℕ) (count index capacity : ℕ) → read_outcome table ≡ done count
      → judged_entry_outcome table index capacity ≡ find_outcome table index capacity
  -- the kind of an entry is no scheme's exactly if it is neither 41, 4C nor 42 hex
  pub unknown_kinds : (entry : List ℕ)
      → UnknownKind entry ↔ ((nametable.kind_of entry ≡ 0x41 → ⊥) × (nametable.kind_of entry ≡ 0x4c → ⊥) × (nametable.kind_of entry ≡ 0x42 → ⊥))
  -- the number of an entry's scheme is no scheme's exactly if it is neither 1, 2 nor 3
  pub unknown_schemes : (number : ℕ) → UnknownScheme number ↔ ((number ≡ 1 → ⊥) × (number ≡ 2 → ⊥) × (number ≡ 3 → ⊥))
  -- of a receiver, whatever state it holds: the header's, the length's, then the refusal that it holds
  pub receiver_order : (state : State) → Settles (verdict_causes state) (count_of state.judged) (verdict_of state)
  -- from a fresh start its codes are those of a table
  pub receiver_verdict : (chunks : List (List ℕ)) → Listed table_codes (verdict_of (received_all fresh chunks))
  -- nametable_short: `read` is passed no buffer to write
  pub short_read : (table : List ℕ) → Listed table_codes (short_read_outcome table)
  pub short_entry : (table : List ℕ) (index : ℕ) (text : List ℕ)
      → Answers (1 ∷ table_codes) (short_find_outcome table index (length text)) (short_entry_text table index) text
  pub to_short : (table moved : List ℕ) → Answers (1 ∷ table_codes) (to_short_outcome table (length moved)) (short.to_short table) moved
  pub to_long : (table moved : List ℕ) → Answers (1 ∷ table_codes) (to_long_outcome table (length moved)) (short.to_long table) moved
  -- its order: the header's, then entry by entry, and for one entry 1 before and the index after; of a
  -- move 1 after all others
  pub short_read_order : (table : List ℕ) → Settles (short_table_causes table) (nametable.count_of table) (short_read_outcome table)
  pub short_entry_order : (table : List ℕ) (index capacity : ℕ)
      → Settles (short_find_causes table index capacity) (length (short_entry_text table index)) (short_find_outcome table index capacity)
  pub to_short_order : (table : List ℕ) (capacity : ℕ) → Settles (to_short_causes table capacity) (length (short.to_short table)) (to_short_outcome table capacity)
  pub to_long_order : (table : List ℕ) (capacity : ℕ) → Settles (to_long_causes table capacity) (length (short.to_long table)) (to_long_outcome table capacity)
  -- a table of one form is malformed to the other's reading, entry by index (given the room) and move, whatever follows its first byte
  pub other_form : (rest : List ℕ) → OtherForm rest
  -- firmware: what is left, and what the number says
  pub write : (number : ℕ) (text label : List ℕ) → AllBelow 256 text
      → Answers write_codes (write_outcome number (length label) text) (written_label number text) label
  pub write_tells : (number capacity : ℕ) (text : List ℕ) → Tells 63 (write_outcome number capacity text)
  pub read : (number : ℕ) (label text : List ℕ)
      → Answers read_codes (firmware.read_outcome number (length text) label) (read_text number label) text
  pub read_tells : (number capacity : ℕ) (label : List ℕ) → Tells 252 (firmware.read_outcome number capacity label)
  -- a number is neither 0 nor any scheme's exactly if it is over 3
  pub unknown_numbers : (number : ℕ) → UnknownNumber number ↔ (3 < number)
  -- report
  pub list_lines : (reader letter : ℕ) (points out : List ℕ)
      → Answers (1 ∷ []) (line_outcome (list_line reader letter points) (length out)) (list_line reader letter points) out
  pub points_lines : (points out : List ℕ) → Answers (1 ∷ []) (line_outcome (points_line points) (length out)) (points_line points) out
  pub refused_at_lines : (code position : ℕ) (out : List ℕ)
      → Answers (1 ∷ []) (line_outcome (refused_at_line code position) (length out)) (refused_at_line code position) out
  pub refused_lines : (code : ℕ) (out : List ℕ) → Answers (1 ∷ []) (line_outcome (refused_line code) (length out)) (refused_line code) out
  pub side_refused_lines : (side : List ℕ) (code position : ℕ) (out : List ℕ)
      → Answers (1 ∷ []) (line_outcome (side_refused_line side code position) (length out)) (side_refused_line side code position) out
  pub difference_lines : (reader : ℕ) (words out : List ℕ)
      → Answers (1 ∷ []) (line_outcome (difference_line reader words) (length out)) (difference_line reader words) out
  pub counts_lines : (same other respelled left right : ℕ) (out : List ℕ)
      → Answers (1 ∷ []) (line_outcome (counts_line same other respelled left right) (length out)) (counts_line same other respelled left right) out
  -- nametable_differences: whatever the tables, the report fits the room that it asks for
  pub difference_report : (left right report : List ℕ)
      → Answers (1 ∷ []) (report_outcome left right (length report)) (report_of left right) report
  pub difference_report_order : (left right : List ℕ) (capacity : ℕ)
      → Settles (whole 1 (capacity < report_capacity) ∷ []) (length (report_of left right)) (report_outcome left right capacity)
  -- a table that is cut is 13, from `read`, and from `entry` at any index, given the room
  pub cut_read : (table : List ℕ) → Cut table → read_outcome table ≡ refused 13 0
  pub cut_entry : (table : List ℕ) → Cut table → (index capacity : ℕ) → 63 ≤ capacity → find_outcome table index capacity ≡ refused 13 0
  -- and so is a whole table that is cut at any byte before its end
  pub prefix_read : (table : List ℕ) (count k : ℕ) → read_outcome table ≡ done count → k < length table → read_outcome (take k table) ≡ refused 13 0
  pub prefix_entry : (table : List ℕ) (count k : ℕ) → read_outcome table ≡ done count → k < length table
      → (index capacity : ℕ) → 63 ≤ capacity → find_outcome (take k table) index capacity ≡ refused 13 0
