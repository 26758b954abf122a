use Rattle.deal.proofs.DealerLaws.{takers_none, takers_turn, takers_end}
use borrow.Author.Rules.{rules}
use Rattle.deal.proofs.dealer.member_past.Goals as goal

pub loop-i-init : goal.loop-i-init
loop-i-init c = (search rules, search takers_none, search rules, search rules)

pub loop-i-preserved : goal.loop-i-preserved
loop-i-preserved c = (search rules, search takers_turn, search rules, search rules)

pub returns : goal.returns
returns c = (search rules, search takers_end)
