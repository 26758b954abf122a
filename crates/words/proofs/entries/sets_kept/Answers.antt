-- Where nobody complains, where a closed place has a set, and else.
use Rattle.words.proofs.EntryLaws.{sets}
use Rattle.words.proofs.entries.sets_kept.Goals as goal

pub returns-then-sets-eq0 : goal.returns-then-sets-eq0
returns-then-sets-eq0 c = search sets

pub returns-then-not-closed_zero : goal.returns-then-not-closed_zero
returns-then-not-closed_zero c = search sets

pub returns : goal.returns
returns c = search sets
