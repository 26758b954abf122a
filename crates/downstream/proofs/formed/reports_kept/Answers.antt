use Rattle.basics.proofs.SumLaws.{alls}
use Rattle.downstream.specs.Formed.{reports_kept}
use Rattle.downstream.proofs.formed.reports_kept.Goals as goal

pub loop-i-init : goal.loop-i-init
loop-i-init c = search alls

pub loop-i-preserved : goal.loop-i-preserved
loop-i-preserved c = search alls

pub returns : goal.returns
unfolding reports_kept
returns c = search alls
