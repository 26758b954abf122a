-- One digit, or two.
use Rattle.lines.proofs.DigitLaws.{one_room, one_end, one_put, two_room, two_end, two_put}
use borrow.Author.Rules.{rules}
use Rattle.lines.proofs.digits.put_short.Goals as goal

pub bounds-out-at : goal.bounds-out-at
bounds-out-at c = search (one_room, rules)

pub returns-then-x-lt10 : goal.returns-then-x-lt10
returns-then-x-lt10 c = (search one_end, search one_put)

pub put_pair-requires : goal.put_pair-requires
put_pair-requires c = search (two_room, rules)

pub returns : goal.returns
returns c = (search two_end, search two_put)
