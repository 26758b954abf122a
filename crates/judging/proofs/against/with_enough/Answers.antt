-- The test as a bit.
use Rattle.judging.proofs.AgainstLaws.{bit_put}
use borrow.Author.Rules.{rules}
use Rattle.judging.proofs.against.with_enough.Goals as goal

pub returns : goal.returns
returns c = search (bit_put, rules)
