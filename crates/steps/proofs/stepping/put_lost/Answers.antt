-- The columns that are put are those of the state after the verdicts.
use Rattle.steps.proofs.StepLaws.{step_member, step_fit, step_formed, step_low, step_order, step_near, step_small, step_words, step_raised, step_emptied, step_verdicts, step_out_lem}
use Rattle.steps.proofs.ColumnLaws.{open_long, heard_long}
use borrow.Author.Rules.{rules}
use Rattle.steps.proofs.stepping.put_lost.Goals as goal

pub put_verdicts-verdicts-requires : goal.put_verdicts-verdicts-requires
put_verdicts-verdicts-requires c = (search (step_fit, rules), search (step_formed, rules), search (step_order, rules), search (step_near, rules), search (step_small, rules), search rules)

pub slice_bounds-raise-end : goal.slice_bounds-raise-end
slice_bounds-raise-end c = search (open_long, rules)

pub slice_bounds-raise-end-2 : goal.slice_bounds-raise-end-2
slice_bounds-raise-end-2 c = search (heard_long, rules)

pub raise-requires : goal.raise-requires
raise-requires c = (search (open_long, rules), search (step_small, rules), search (heard_long, rules), search (step_low, rules))

pub put_step-requires : goal.put_step-requires
put_step-requires c = (search (step_fit, rules), search (step_member, rules))

pub returns : goal.returns
returns c = (search (step_verdicts, rules), search (step_words, step_raised, step_emptied, rules), search (step_out_lem, rules))
