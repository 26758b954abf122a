-- The cluster and the numbers are those in the words.
use Rattle.steps.proofs.HearLaws.{receiving_few, point_moves}
use borrow.Author.Rules.{rules}
use Rattle.steps.proofs.hearing.point_risen.Goals as goal

pub point_from-requires : goal.point_from-requires
point_from-requires c = search (receiving_few, rules)

pub returns : goal.returns
returns c = search (point_moves, rules)
