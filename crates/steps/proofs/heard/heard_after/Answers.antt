-- First the member goes out of the sets of what it holds, then into those of what it lacks.
use Rattle.steps.proofs.HeardLaws.{heard_told}
use borrow.Author.Rules.{rules}
use Rattle.steps.proofs.heard.heard_after.Goals as goal

pub returns : goal.returns
returns c = search (heard_told, rules)
