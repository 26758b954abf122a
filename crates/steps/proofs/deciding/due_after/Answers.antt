-- The report stands in the columns of numbers and masks before the messages are judged.
use Rattle.downstream.proofs.FormedLaws.{prefixes}
use Rattle.steps.proofs.HearLaws.{receiving_few}
use Rattle.steps.proofs.StepLaws.{step_member, step_fit, step_few, step_low, step_order, step_near, step_due}
use borrow.Author.Rules.{rules}
use Rattle.steps.proofs.deciding.due_after.Goals as goal

pub bounds-numbers-at : goal.bounds-numbers-at
bounds-numbers-at c = search (step_member, rules)

pub bounds-masks-at : goal.bounds-masks-at
bounds-masks-at c = search (step_member, rules)

pub cluster_at-cluster-requires : goal.cluster_at-cluster-requires
cluster_at-cluster-requires c = (search rules, search (step_fit, rules))

pub slice_bounds-shares-end : goal.slice_bounds-shares-end
slice_bounds-shares-end c = search (receiving_few, step_few, prefixes)

pub slice_bounds-due_among-end : goal.slice_bounds-due_among-end
slice_bounds-due_among-end c = search (receiving_few, step_few, prefixes)

pub overflow_sub-words : goal.overflow_sub-words
overflow_sub-words c = search (step_order, rules)

pub due_among-requires : goal.due_among-requires
due_among-requires c = (search (receiving_few, step_few, prefixes), search (step_low, rules), search (step_near, rules))

pub returns : goal.returns
returns c = search (step_due, rules)
