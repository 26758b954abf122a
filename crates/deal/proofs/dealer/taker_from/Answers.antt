use Rattle.deal.proofs.DealerLaws.{takers_skip}
use Rattle.deal.proofs.dealer.taker_from.Goals as goal

pub loop-i-preserved : goal.loop-i-preserved
loop-i-preserved c = search takers_skip
