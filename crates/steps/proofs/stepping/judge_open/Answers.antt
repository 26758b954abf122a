-- Where nothing is due the columns stay as the report left them.
use Rattle.steps.proofs.StepLaws.{step_member, step_fit, step_highest, step_low, step_order, step_closed_counts, step_closed_sets, step_words, step_counts_stay, step_sets_stay, step_none, step_none_out}
use borrow.Author.Rules.{rules}
use Rattle.steps.proofs.stepping.judge_open.Goals as goal

pub overflow_sub-n : goal.overflow_sub-n
overflow_sub-n c = search (step_order, rules)

pub open_at-counts-requires : goal.open_at-counts-requires
open_at-counts-requires c = (search rules, search (step_closed_counts, rules))

pub heard_after-sets-requires : goal.heard_after-sets-requires
heard_after-sets-requires c = (search (step_highest, rules), search (step_low, rules), search (step_closed_sets, rules))

pub put_step-requires : goal.put_step-requires
put_step-requires c = (search (step_fit, rules), search (step_member, rules))

pub returns-then-due-eq0 : goal.returns-then-due-eq0
returns-then-due-eq0 c = (search (step_none, rules), search (step_words, step_counts_stay, step_sets_stay, rules), search (step_none_out, rules))
