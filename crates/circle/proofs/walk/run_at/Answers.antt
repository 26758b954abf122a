-- The run is the definition, opened.
use Rattle.circle.specs.Positions.{run_at}
use borrow.Author.Rules.{rules}
use Rattle.circle.proofs.walk.run_at.Goals as goal

pub returns : goal.returns
unfolding run_at
returns c = search rules
