-- The multiple of the totals, and its parts.
use Rattle.circle.proofs.CircleLaws.{circle_told}
use borrow.Author.Rules.{rules}
use Rattle.circle.proofs.walk.circle_of.Goals as goal

pub returns : goal.returns
returns c = search (circle_told, rules)
