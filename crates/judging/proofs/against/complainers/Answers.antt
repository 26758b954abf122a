use Rattle.judging.proofs.AgainstLaws.{complainers_any}
use borrow.Author.Rules.{rules}
use Rattle.judging.proofs.against.complainers.Goals as goal

pub returns : goal.returns
returns c = search (complainers_any, rules)
