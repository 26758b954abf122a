-- Open or not, by the offset of the place.
use Rattle.steps.proofs.ColumnLaws.{open_word, closed_word}
use borrow.Author.Rules.{rules}
use Rattle.steps.proofs.columns.open_word.Goals as goal

pub returns-then-offset-n : goal.returns-then-offset-n
returns-then-offset-n c = search (open_word, rules)

pub returns-else-offset-n : goal.returns-else-offset-n
returns-else-offset-n c = search (closed_word, rules)
