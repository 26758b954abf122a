-- A verdict that is due goes behind what is written; otherwise nothing changes.
use Rattle.verdicts.proofs.WriteLaws.{due_put, due_at_lem, not_due_put, not_due_at}
use Rattle.verdicts.proofs.writing.put_due.Goals as goal

pub returns-then-due : goal.returns-then-due
returns-then-due c = (search due_at_lem, search due_put)

pub returns : goal.returns
returns c = (search not_due_at, search not_due_put)
