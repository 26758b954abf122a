-- Well-formed holdings have a number that leaves room for the sum.
use Rattle.holdings.proofs.ArrivalLaws.{formed_room}
use borrow.Author.Rules.{rules}
use Rattle.holdings.proofs.arrival.refusal_of.Goals as goal

pub overflow_add-h : goal.overflow_add-h
overflow_add-h c = search (formed_room, rules)
