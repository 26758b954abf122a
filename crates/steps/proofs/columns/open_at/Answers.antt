-- Where nothing is collected what is closed is zero already.
use Rattle.steps.proofs.ColumnLaws.{open_kept}
use borrow.Author.Rules.{rules}
use Rattle.steps.proofs.columns.open_at.Goals as goal

pub returns-then-p-words : goal.returns-then-p-words
returns-then-p-words c = search (open_kept, rules)
