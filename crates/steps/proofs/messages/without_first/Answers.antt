-- Above the first bit a number and the one before it have the same bits.
use Rattle.steps.proofs.ChangeLaws.{without_told}
use borrow.Author.Rules.{rules}
use Rattle.steps.proofs.messages.without_first.Goals as goal

pub returns : goal.returns
returns c = search (without_told, rules)
