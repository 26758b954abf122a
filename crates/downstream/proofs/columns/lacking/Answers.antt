use Rattle.marks.proofs.SetLaws.{set_start, set_turn, set_done}
use borrow.Author.Rules.{rules}
use Rattle.downstream.specs.State.{lacking_of}
use Rattle.downstream.proofs.columns.lacking.Goals as goal

pub loop-i-init : goal.loop-i-init
loop-i-init c = search set_start

pub loop-i-preserved : goal.loop-i-preserved
loop-i-preserved c = search (set_turn, rules)

pub returns : goal.returns
unfolding lacking_of
returns c = search (set_done, rules)
