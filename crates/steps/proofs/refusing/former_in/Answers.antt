-- The report that stands in the words of that member.
use Rattle.steps.proofs.RefusalLaws.{former_there, former_nowhere}
use borrow.Author.Rules.{rules}
use Rattle.steps.proofs.refusing.former_in.Goals as goal

pub returns-then-at-lt64 : goal.returns-then-at-lt64
returns-then-at-lt64 c = search (former_there, rules)

pub returns-else-at-lt64 : goal.returns-else-at-lt64
returns-else-at-lt64 c = search (former_nowhere, rules)
