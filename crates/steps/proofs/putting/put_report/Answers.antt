-- Four words stored, and the others are the state's already.
use Rattle.steps.proofs.StoreLaws.{report_stored}
use borrow.Author.Rules.{rules}
use Rattle.steps.proofs.putting.put_report.Goals as goal

pub returns : goal.returns
returns c = search (report_stored, rules)
