-- Each step stays within its bounds, and the steps together are the definition.
use Rattle.window.proofs.ReportLaws.{step_room, step_taking, step_judging, step_writing, step_told, step_out_lem}
use lib.ListN.{length}
use mathlib.Core.Path.{◌≡◌}
use borrow.Author.Rules.{rules}
use Rattle.window.proofs.reporting.step_of.Goals as goal

pub taken-d-requires : goal.taken-d-requires
taken-d-requires c = let l : length c.args.before.reports ≡ 64 = search rules in search step_taking

pub due_set-lost-requires : goal.due_set-lost-requires
due_set-lost-requires c = let l : length c.args.before.reports ≡ 64 = search rules in
    step_judging _ _ _ _ _ _ _ _ c.requires _ c.taken-d.ensures l

pub write_verdicts-verdicts-requires : goal.write_verdicts-verdicts-requires
write_verdicts-verdicts-requires c = let l : length c.args.before.reports ≡ 64 = search rules in
    (step_writing _ _ _ _ _ _ _ _ c.requires _ c.taken-d.ensures l _ c.due_set-lost.ensures, step_room _ _ _ _ _ _ _ _ c.requires)

pub judged-next-requires : goal.judged-next-requires
judged-next-requires c = let l : length c.args.before.reports ≡ 64 = search rules in
    (step_judging _ _ _ _ _ _ _ _ c.requires _ c.taken-d.ensures l, search rules)

pub returns : goal.returns
returns c = (search step_told, search step_out_lem)
