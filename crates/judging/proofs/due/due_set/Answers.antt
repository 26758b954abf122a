-- The columns, the shares and the entries are those of the state.
use Rattle.judging.proofs.StepLaws.{due_told}
use Rattle.judging.proofs.due.due_set.Goals as goal

pub returns : goal.returns
returns c = search due_told
