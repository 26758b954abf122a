-- The point of the members that the cluster has.
use borrow.Author.Rules.{rules}
use Rattle.downstream.specs.State.{point_from}
use Rattle.downstream.proofs.formed.point_kept.Goals as goal

pub returns : goal.returns
unfolding point_from
returns c = search rules
