use Rattle.downstream.proofs.SetLaws.{named_start, named_turn}
use borrow.Author.Rules.{rules}
use Rattle.downstream.proofs.sets.named_among.Goals as goal

pub loop-o-init : goal.loop-o-init
loop-o-init c = search named_start

pub loop-o-preserved : goal.loop-o-preserved
loop-o-preserved c = search (named_turn, rules)
