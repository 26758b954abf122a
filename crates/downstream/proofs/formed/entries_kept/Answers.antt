use Rattle.basics.proofs.SumLaws.{alls}
use Rattle.downstream.specs.Formed.{entries_kept}
use Rattle.downstream.proofs.formed.entries_kept.Goals as goal

pub loop-o-init : goal.loop-o-init
loop-o-init c = search alls

pub loop-o-preserved : goal.loop-o-preserved
loop-o-preserved c = search alls

pub returns : goal.returns
unfolding entries_kept
returns c = search alls
