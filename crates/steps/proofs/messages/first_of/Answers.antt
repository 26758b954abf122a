-- The complement's marks run up to it.
use Rattle.steps.proofs.ChangeLaws.{first_in, first_marked}
use borrow.Author.Rules.{rules}
use Rattle.steps.proofs.messages.first_of.Goals as goal

pub returns : goal.returns
returns c = (search rules, search (first_marked, rules), search (first_in, rules))
