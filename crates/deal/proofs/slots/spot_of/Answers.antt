use Rattle.deal.proofs.DealerLaws.{first_small, first_slots, first_early}
use borrow.Author.Rules.{rules}
use Rattle.deal.proofs.slots.spot_of.Goals as goal

pub round_at-first-requires : goal.round_at-first-requires
round_at-first-requires c = (search rules, search first_small)

pub loop-takers-init : goal.loop-takers-init
loop-takers-init c = (search first_early, search rules, search rules, search rules, search first_slots, search rules)
