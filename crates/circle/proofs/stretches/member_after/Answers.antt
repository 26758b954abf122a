-- The branch is the one of the definition.
use Rattle.basics.proofs.BoolLaws.{branches}
use Rattle.circle.specs.Stretches.{following}
use borrow.Author.Rules.{rules}
use Rattle.circle.proofs.stretches.member_after.Goals as goal

pub returns-then-i-n : goal.returns-then-i-n
unfolding following
returns-then-i-n c = (search branches, search rules)

pub returns-else-i-n : goal.returns-else-i-n
unfolding following
returns-else-i-n c = (search branches, search rules)
