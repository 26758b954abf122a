-- The sets are asked of the three columns as they lie in the words.
use Rattle.words.proofs.EntryLaws.{told_done}
use Rattle.words.proofs.entries.sets_told.Goals as goal

pub returns : goal.returns
returns c = search told_done
