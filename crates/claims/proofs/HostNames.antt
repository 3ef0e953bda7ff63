-- What holds of host names: their parts, each refusal by its causes, and both round trips.
use Prim.Native.Nat.{ℕ, ◌≤◌, ◌<◌}
use mathlib.Core.Path.{◌≡◌, sym, ap, ◌∙◌}
use mathlib.Core.Logic.{◌↔◌}
use mathlib.Core.List.{List}
use lib.ListN.{length}
use native.Mathlib.Omega.{arith}
use Rattle.basis.specs.Causes.{whole, Settles}
use Rattle.basis.specs.Codec.{Writable, Readable}
use Rattle.basis.proofs.Causes.{settled-done, settle-without}
use Rattle.host_name.specs.Answer.{name_of, text_of_name, encode_outcome, decode_outcome}
use Rattle.host_name_facts.specs.Causes.{text_causes, name_causes}
use Rattle.host_name_facts.specs.Codec.{small_lace, codec}
use Rattle.host_name.proofs.Parts.{parts_join}
use Rattle.host_name_facts.proofs.Parts.{parts-dotless, parts-only}
use Rattle.host_name_facts.proofs.SmallLace.{name-but-case, name-by-part}
use Rattle.host_name_facts.proofs.Names.{Written, Read, written-iff, read-iff, read-spelled, spelled-read, name-small}
use Rattle.host_name_facts.proofs.Settled.{name-encode-settled, name-decode-settled}
use Rattle.claims.specs.Demands.{Writes, Reads}
use Rattle.claims.specs.HostNames.{HostNames}
use Rattle.claims.proofs.CodecDemands.{settled-leaves}

-- given room, the causes other than 1 settle the answers
encode-settled : (capacity : ℕ) (text : List ℕ) → 253 ≤ capacity → Settles (text_causes text) (length (name_of text)) (encode_outcome capacity text)
encode-settled capacity text room = settle-without (whole 1 (capacity < 253)) (λ p h. omega (arith, room, h.1)) (name-encode-settled capacity text)

decode-settled : (capacity : ℕ) (name : List ℕ) → 253 ≤ capacity → Settles (name_causes name) (length (text_of_name name)) (decode_outcome capacity name)
decode-settled capacity name room = settle-without (whole 1 (capacity < 253)) (λ p h. omega (arith, room, h.1)) (name-decode-settled capacity name)

-- a text may be written, and a name read, exactly if it has what the facts ask
writable-iff : (text : List ℕ) → Writable codec text ↔ Written text
writable-iff text =
    let done-iff = settled-done _ (encode-settled 253 text (omega arith)) in
    (λ w. ((written-iff 253 text).0 (done-iff.1 w)).1, λ w. done-iff.0 ((written-iff 253 text).1 (omega arith, w)))

readable-iff : (name : List ℕ) → Readable codec name ↔ Read name
readable-iff name =
    let done-iff = settled-done _ (decode-settled 253 name (omega arith)) in
    (λ r. ((read-iff 253 name).0 (done-iff.1 r)).1, λ r. done-iff.0 ((read-iff 253 name).1 (omega arith, r)))

-- writing leaves a name exactly when the text may be written and this is its name
writing : (buffer text name : List ℕ) → 253 ≤ length buffer → Writes codec buffer text name ↔ (Writable codec text × (name ≡ name_of text))
writing buffer text name room = settled-leaves (name_of text) buffer name (encode-settled (length buffer) text room)

-- reading leaves a text exactly when it may be written and its name is this one with its LACE labels in small letters
reading : (buffer name text : List ℕ) → 253 ≤ length buffer → Reads codec buffer name text ↔ (Writable codec text × (name_of text ≡ small_lace name))
reading buffer name text room =
    let leaves = settled-leaves (text_of_name name) buffer text (decode-settled (length buffer) name room) in (
      λ r.
          let (readable, is) = leaves.0 r in
          let (written, spelled) = read-spelled name ((readable-iff name).0 readable) in
          rw is ((writable-iff (text_of_name name)).1 written, spelled),
      λ (writable, spelled).
          let (read, is) = spelled-read text name ((writable-iff text).0 writable) spelled in
          leaves.1 ((readable-iff name).1 read, sym is),
    )

-- what is written or read has room
writes-room : (buffer text name : List ℕ) → Writes codec buffer text name → 253 ≤ length buffer
writes-room buffer text name w = ((written-iff (length buffer) text).0 (w.count, w.answers)).0

reads-room : (buffer name text : List ℕ) → Reads codec buffer name text → 253 ≤ length buffer
reads-room buffer name text r = ((read-iff (length buffer) name).0 (r.count, r.answers)).0

pub host-names : HostNames
host-names = record {
  joins = parts_join;
  dotless = parts-dotless;
  only = parts-only;
  encoding = name-encode-settled;
  decoding = name-decode-settled;
  writing = writing;
  reading = reading;
  read_written = λ buffer other name text room r.
      let (writable, spelled) = (reading buffer name text (reads-room buffer name text r)).0 r in
      (writing other text (small_lace name) room).1 (writable, sym spelled);
  but_for_case = name-but-case;
  part_by_part = name-by-part;
  written_read = λ buffer other text name room w.
      let (writable, is) = (writing buffer text name (writes-room buffer text name w)).0 w in
      (reading other name text room).1 (writable, rw is (sym (name-small text ((writable-iff text).0 writable))));
  alike = λ buffer other name mate text words room space r q.
      let (writable, spelled) = (reading buffer name text room).0 r in
      let (may, named) = (reading other mate words space).0 q in (
        λ e. sym spelled ∙ ap name_of e ∙ named,
        λ e. sym (spelled-read text mate ((writable-iff text).0 writable) (spelled ∙ e)).1 ∙ (spelled-read words mate ((writable-iff words).0 may) named).1,
      );
}
