-- Before and behind the open places, or between their two ends.
use Rattle.words.proofs.EntryLaws.{closed_around, closed_between}
use borrow.Author.Rules.{rules}
use Rattle.words.proofs.entries.closed_zero.Goals as goal

pub returns-then-end-le64 : goal.returns-then-end-le64
returns-then-end-le64 c = search (closed_around, rules)

pub returns-else-end-le64 : goal.returns-else-end-le64
returns-else-end-le64 c = search (closed_between, rules)
