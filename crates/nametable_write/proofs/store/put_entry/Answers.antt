-- `store::put_entry` meets its contract: zeros, the label over them, then the four bytes before it.
use mathlib.Core.Path.{sym, ap, ◌∙◌}
use native.Mathlib.Omega.{arith}
use lib.ListN.{length}
use Rattle.nametable_write.proofs.StoreLaws.{zeros-replicate, scheme-is, label-short, entry-long, form-fits, count-is, entry-stored}
use Rattle.nametable_write.proofs.store.put_entry.Goals as goal

pub overflow_cast-count : goal.overflow_cast-count
overflow_cast-count c =
    let a = c.args in
    omega (
      arith,
      label-short a.reader a.number a.text.now c.requires.spelled,
      count-is a.reader a.number a.text.now c.requires.spelled a.bytes.now _ _ c.requires.bytes_len (scheme-is c.args.number c.of_own_number.ensures c.unwrap_or-scheme.ensures) (c.fill.ensures.after (λ y h. h) ∙ zeros-replicate _) _ c.encode-answer.ensures.result_value c.encode-answer.ensures.label_after c.bytes_written-count.ensures,
    )

pub put_form-requires : goal.put_form-requires
put_form-requires c =
    let a = c.args in
    form-fits a.reader a.number a.text.now c.requires.spelled a.bytes.now _ _ c.requires.bytes_len (scheme-is c.args.number c.of_own_number.ensures c.unwrap_or-scheme.ensures) (c.fill.ensures.after (λ y h. h) ∙ zeros-replicate _) _ c.encode-answer.ensures.result_value c.encode-answer.ensures.label_after

pub shape_of-bytes : goal.shape_of-bytes
shape_of-bytes c =
    ap length (let a = c.args in entry-stored a.reader a.number a.text.now c.requires.spelled a.bytes.now _ _ c.requires.bytes_len (scheme-is c.args.number c.of_own_number.ensures c.unwrap_or-scheme.ensures) (c.fill.ensures.after (λ y h. h) ∙ zeros-replicate _) _ c.encode-answer.ensures.result_value c.encode-answer.ensures.label_after c.kind.ensures c.bytes_written-count.ensures c.put_form.ensures) ∙ entry-long c.args.reader c.args.number c.args.text.now c.requires.spelled ∙ sym c.requires.bytes_len

pub returns : goal.returns
returns c =
    let a = c.args in
    entry-stored a.reader a.number a.text.now c.requires.spelled a.bytes.now _ _ c.requires.bytes_len (scheme-is c.args.number c.of_own_number.ensures c.unwrap_or-scheme.ensures) (c.fill.ensures.after (λ y h. h) ∙ zeros-replicate _) _ c.encode-answer.ensures.result_value c.encode-answer.ensures.label_after
    c.kind.ensures c.bytes_written-count.ensures c.put_form.ensures
