-- The slot is the definition's.
use Rattle.deal.proofs.PairLaws.{slot_below, slot_fits, sender_told}
use borrow.Author.Rules.{rules}
use Rattle.deal.proofs.pairs.first_sender.Goals as goal

pub overflow_cast-slot-2 : goal.overflow_cast-slot-2
overflow_cast-slot-2 c = search slot_fits

pub owner-requires : goal.owner-requires
owner-requires c = (search rules, search (slot_below, rules))

pub returns : goal.returns
returns c = search sender_told
