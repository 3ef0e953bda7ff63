-- `entries::form_of` meets its contract: each test answers in its turn, and what passes them all
-- has the parts that were read.
use native.Mathlib.Omega.{arith}
use Rattle.nametable.proofs.EntryLaws.{unknown-kind, number-below, no_label, long-label, not-filled, lawful-form}
use Rattle.nametable.proofs.entries.form_of.Goals as goal

pub returns-in_err-scheme : goal.returns-in_err-scheme
returns-in_err-scheme c = rw c.from_residual.ensures (unknown-kind _ _ c.of_kind.ensures c.in_err-scheme.was)

pub returns-then-reader-least : goal.returns-then-reader-least
returns-then-reader-least c =
    number-below _ _ c.of_kind.ensures c.in_ok-scheme.was c.number_at-reader.ensures.0 c.if-reader-least.true

pub overflow_cast-length : goal.overflow_cast-length
overflow_cast-length c = omega (arith, c.type_inv.entry 3)

pub returns-then-length-lt1 : goal.returns-then-length-lt1
returns-then-length-lt1 c =
    no_label _ _ c.of_kind.ensures c.in_ok-scheme.was c.number_at-reader.ensures.0 c.if-reader-least.false c.if-length-lt1.true

pub returns-then-length-gt-LABEL_CAPACITY : goal.returns-then-length-gt-LABEL_CAPACITY
returns-then-length-gt-LABEL_CAPACITY c =
    long-label _ _ c.of_kind.ensures c.in_ok-scheme.was c.number_at-reader.ensures.0 c.if-reader-least.false c.if-length-gt-LABEL_CAPACITY.true

pub returns-then-not-is_zero : goal.returns-then-not-is_zero
returns-then-not-is_zero c =
    not-filled _ _ c.of_kind.ensures c.in_ok-scheme.was c.number_at-reader.ensures.0
    c.if-reader-least.false c.if-length-lt1.false (omega arith) c.requires c.is_zero.ensures c.if-not-is_zero.true-raw

pub returns : goal.returns
returns c =
    lawful-form _ _ c.of_kind.ensures c.in_ok-scheme.was c.number_at-reader.ensures.0
    c.if-reader-least.false c.if-length-lt1.false (omega arith) c.requires c.is_zero.ensures c.if-not-is_zero.false-raw
