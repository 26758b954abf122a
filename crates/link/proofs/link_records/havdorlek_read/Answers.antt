-- A refusal and zeros, or 0 and the record's numbers.
use Rattle.std.proofs.Common.{◌∙◌, ap}
use Rattle.link.specs.Numbers.{told_numbers}
use Rattle.records.specs.Answers.{Told, told}
use Rattle.link.proofs.RecordLaws.{record_number, record_numbers}
use Rattle.link.proofs.link_records.havdorlek_read.Goals as goal

pub returns-in-Ok : goal.returns-in-Ok
returns-in-Ok c = let e = c.in-Ok.ensures.0 in (record_number _ _ e, record_numbers _ _ e _ c.put_record.ensures)

pub returns-in-Err : goal.returns-in-Err
unfolding told
returns-in-Err c =
    let e = c.in-Err.ensures.0 in
    (c.number.ensures ∙ ap (λ (t : Told). t.refusal) e, ap told_numbers e)
