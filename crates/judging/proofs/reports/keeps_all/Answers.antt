-- A report with a lower number lacks something; of another the marks decide, moved down to the new number.
use Rattle.judging.proofs.ReportLaws.{keeps_not, keeps_told}
use borrow.Author.Rules.{rules}
use Rattle.judging.proofs.reports.keeps_all.Goals as goal

pub returns-then-c-former : goal.returns-then-c-former
returns-then-c-former c = search keeps_not

pub returns : goal.returns
returns c = search (keeps_told, rules)
