-- Both places are moved on by the run.
use Rattle.circle.specs.Positions.{next_of}
use Rattle.circle.proofs.walk.next.Goals as goal

pub returns : goal.returns
unfolding next_of
returns c = cc
