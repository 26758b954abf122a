-- The sum has bit 63 where nothing is left of g.
use Rattle.words.proofs.PointLaws.{bits_told}
use borrow.Author.Rules.{rules}
use Rattle.words.proofs.point.reached_bits.Goals as goal

pub returns : goal.returns
returns c = search (bits_told, rules)
