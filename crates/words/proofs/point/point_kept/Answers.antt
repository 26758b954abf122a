-- By the number itself and the next one.
use Rattle.words.proofs.PointLaws.{point_asked}
use borrow.Author.Rules.{rules}
use Rattle.words.proofs.point.point_kept.Goals as goal

pub returns : goal.returns
returns c = search (point_asked, rules)
