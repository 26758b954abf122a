-- One digit behind the other.
use Rattle.lines.proofs.DigitLaws.{pair_room, pair_put}
use borrow.Author.Rules.{rules}
use Rattle.lines.proofs.digits.put_pair.Goals as goal

pub bounds-out-at-2 : goal.bounds-out-at-2
bounds-out-at-2 c = search (pair_room, rules)

pub returns : goal.returns
returns c = search pair_put
