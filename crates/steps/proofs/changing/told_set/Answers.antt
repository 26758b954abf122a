-- The branch is the one of the definition.
use Rattle.basics.proofs.BoolLaws.{branches}
use Rattle.steps.specs.Columns.{told_set}
use Rattle.steps.proofs.changing.told_set.Goals as goal

pub returns-then-complains : goal.returns-then-complains
unfolding told_set
returns-then-complains c = search branches

pub returns-else-complains : goal.returns-else-complains
unfolding told_set
returns-else-complains c = search branches
