use Rattle.basics.proofs.SumLaws.{sums}
use Rattle.deal.specs.Rounds.{slots_before}
use Rattle.deal.proofs.DealerLaws.{takers_none, takers_turn, takers_done, slots_within}
use borrow.Author.Rules.{rules}
use Rattle.deal.proofs.slots.round_at.Goals as goal

pub loop-count-init : goal.loop-count-init
unfolding slots_before
loop-count-init c = (search sums, search takers_none, search rules, search rules)

pub overflow_add-before : goal.overflow_add-before
overflow_add-before c = search (slots_within, rules)

pub loop-count-preserved : goal.loop-count-preserved
loop-count-preserved c = (search sums, search takers_turn, search rules, search rules)

pub returns : goal.returns
unfolding slots_before
returns c = (search sums, search takers_done)
