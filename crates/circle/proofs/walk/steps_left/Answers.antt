-- Whole turns are left out where the walk is back.
use Rattle.basics.proofs.BoolLaws.{branches}
use native.Mathlib.Nat.{mod-le}
use borrow.Author.Rules.{rules}
use Rattle.circle.proofs.walk.steps_left.Goals as goal

pub returns-then-back : goal.returns-then-back
returns-then-back c = (search branches, search (mod-le, rules))

pub returns-else-back : goal.returns-else-back
returns-else-back c = (search branches, search rules)
