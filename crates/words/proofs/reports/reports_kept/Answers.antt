-- The members' reports, and the columns past their end.
use Rattle.words.proofs.ReportLaws.{reports_told}
use borrow.Author.Rules.{rules}
use Rattle.words.proofs.reports.reports_kept.Goals as goal

pub returns : goal.returns
returns c = search (reports_told, rules)
