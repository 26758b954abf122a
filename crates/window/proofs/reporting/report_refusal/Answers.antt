-- An ill-formed state is 17; of a well-formed one the report is asked.
use Rattle.window.proofs.RefusalLaws.{report_17, report_given}
use borrow.Author.Rules.{rules}
use Rattle.window.proofs.reporting.report_refusal.Goals as goal

pub returns-then-not-well_formed : goal.returns-then-not-well_formed
returns-then-not-well_formed c = search report_17

pub returns : goal.returns
returns c = search (report_given, rules)
