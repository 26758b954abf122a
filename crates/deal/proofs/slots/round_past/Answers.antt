-- There is a taker, as the slot is still to come; and as many rounds as its takers fill at most are gone past.
use Rattle.deal.proofs.DealerLaws.{some_takers, past_reached, past_early, past_fits, past_later}
use borrow.Author.Rules.{rules}
use Rattle.deal.proofs.slots.round_past.Goals as goal

pub nonzero_div-result : goal.nonzero_div-result
nonzero_div-result c = search (some_takers, rules)

pub overflow_add-result : goal.overflow_add-result
overflow_add-result c = search (past_fits, rules)

pub returns : goal.returns
returns c = (search past_later, search past_early, search past_reached)
