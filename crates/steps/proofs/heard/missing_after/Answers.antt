-- What lies below the highest is what would be held up to the one before it.
use Rattle.steps.proofs.HeardLaws.{missing_told}
use borrow.Author.Rules.{rules}
use Rattle.steps.proofs.heard.missing_after.Goals as goal

pub returns : goal.returns
returns c = search (missing_told, rules)
