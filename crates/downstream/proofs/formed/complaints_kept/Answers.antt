-- The set is a part of the set of members that lack the message, of those up to the last that it names.
use Rattle.downstream.proofs.ColumnLaws.{subset_named}
use borrow.Author.Rules.{rules}
use Rattle.downstream.proofs.formed.complaints_kept.Goals as goal

pub returns : goal.returns
returns c = search (subset_named, rules)
