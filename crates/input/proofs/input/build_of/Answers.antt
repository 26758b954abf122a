-- Too long, in another order, or well built.
use Rattle.input.proofs.BuildLaws.{too_long, building}
use borrow.Author.Rules.{rules}
use Rattle.input.proofs.input.build_of.Goals as goal

pub returns-then-s-gt4096 : goal.returns-then-s-gt4096
returns-then-s-gt4096 c = search (too_long, rules)

pub returns-then-in_order : goal.returns-then-in_order
returns-then-in_order c = search building

pub returns-else-in_order : goal.returns-else-in_order
returns-else-in_order c = search building
