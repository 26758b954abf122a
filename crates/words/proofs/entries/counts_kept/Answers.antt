-- By the bits of all counts, and the closed places.
use Rattle.words.proofs.EntryLaws.{counts_told}
use borrow.Author.Rules.{rules}
use Rattle.words.proofs.entries.counts_kept.Goals as goal

pub returns : goal.returns
returns c = search (counts_told, rules)
