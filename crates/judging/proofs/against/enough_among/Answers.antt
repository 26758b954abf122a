use Rattle.marks.proofs.SetLaws.{set_start}
use Rattle.judging.proofs.AgainstLaws.{enough_turn}
use borrow.Author.Rules.{rules}
use Rattle.judging.proofs.against.enough_among.Goals as goal

pub loop-o-init : goal.loop-o-init
loop-o-init c = (search rules, search set_start)

pub loop-o-preserved : goal.loop-o-preserved
loop-o-preserved c = (search rules, search (enough_turn, rules))
