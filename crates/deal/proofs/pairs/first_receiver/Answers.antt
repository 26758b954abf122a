-- The slot is the definition's, and the sum on the way does not wrap.
use Rattle.deal.proofs.PairLaws.{slot_below, slot_fits, turn_fits, receiver_told}
use borrow.Author.Rules.{rules}
use Rattle.deal.proofs.pairs.first_receiver.Goals as goal

pub overflow_add-turned : goal.overflow_add-turned
overflow_add-turned c = search turn_fits

pub overflow_cast-slot : goal.overflow_cast-slot
overflow_cast-slot c = search slot_fits

pub owner-requires : goal.owner-requires
owner-requires c = (search rules, search (slot_below, rules))

pub returns : goal.returns
returns c = search receiver_told
