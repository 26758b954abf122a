-- All of them are zero.
use Rattle.words.proofs.PutLaws.{none_put}
use borrow.Author.Rules.{rules}
use Rattle.words.proofs.opening.put_none.Goals as goal

pub returns : goal.returns
returns c = let zero = c.fill.ensures.after (λ y e. e) in search (none_put, rules)
