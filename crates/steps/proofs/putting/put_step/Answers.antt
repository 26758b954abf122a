-- The columns go behind the report that was put.
use Rattle.steps.proofs.StoreLaws.{entries_behind}
use borrow.Author.Rules.{rules}
use Rattle.steps.proofs.putting.put_step.Goals as goal

pub returns : goal.returns
returns c = search (entries_behind, rules)
