-- Within the first turn the step is its own remainder; otherwise the remainder is below the steps.
use Rattle.circle.proofs.TableLaws.{step_within, step_below}
use borrow.Author.Rules.{rules}
use Rattle.circle.proofs.table.step_of.Goals as goal

pub returns-then-step-steps : goal.returns-then-step-steps
returns-then-step-steps c = (search step_within, search rules)

pub returns : goal.returns
returns c = (search rules, search step_below)
