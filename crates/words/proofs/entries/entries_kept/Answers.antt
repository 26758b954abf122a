-- Where all are empty, and else.
use Rattle.words.proofs.EntryLaws.{entries}
use Rattle.words.proofs.SpanLaws.{any_told}
use borrow.Author.Rules.{rules}
use Rattle.words.proofs.entries.entries_kept.Goals as goal

pub returns-then-counts-sets-eq0 : goal.returns-then-counts-sets-eq0
returns-then-counts-sets-eq0 c = search (entries, any_told)

pub counts_kept-counted-requires : goal.counts_kept-counted-requires
counts_kept-counted-requires c = (search rules, search (any_told, rules))

pub sets_kept-told-requires : goal.sets_kept-told-requires
sets_kept-told-requires c = (search rules, search rules, search rules, search (any_told, rules))

pub returns : goal.returns
returns c = search (entries, any_told)
