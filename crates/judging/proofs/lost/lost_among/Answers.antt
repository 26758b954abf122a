use Rattle.marks.proofs.SetLaws.{set_start, set_done}
use Rattle.judging.proofs.LostLaws.{lost_turn}
use borrow.Author.Rules.{rules}
use Rattle.judging.proofs.lost.lost_among.Goals as goal

pub loop-o-init : goal.loop-o-init
loop-o-init c = (search rules, search rules, search rules, search rules, search rules, search set_start)

pub loop-o-preserved : goal.loop-o-preserved
loop-o-preserved c = (search rules, search rules, search rules, search rules, search rules, search lost_turn)

pub returns : goal.returns
returns c = search set_done
