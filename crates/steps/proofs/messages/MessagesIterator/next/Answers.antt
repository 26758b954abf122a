-- One message fewer is left.
use Prim.Native.Nat.{◌<◌}
use Rattle.steps.proofs.ChangeLaws.{fewer_left}
use borrow.Author.Rules.{rules}
use Rattle.steps.proofs.messages.MessagesIterator.next.Goals as goal

pub returns-clause-goes : goal.returns-clause-goes
returns-clause-goes c = let fewer : c.without_first-self.result < c.args.self.now.0 = search (fewer_left, rules) in search rules
