use Rattle.basics.proofs.SumLaws.{alls}
use Rattle.words.proofs.reports.members_kept.Goals as goal

pub loop-i-init : goal.loop-i-init
loop-i-init c = search alls

pub loop-i-preserved : goal.loop-i-preserved
loop-i-preserved c = search alls

pub returns : goal.returns
returns c = search alls
