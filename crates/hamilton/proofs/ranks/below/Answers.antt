-- One more key asked.
use Rattle.basics.proofs.HowManyLaws.{many_none, many_turn, many_done}
use borrow.Author.Rules.{rules}
use Rattle.hamilton.proofs.ranks.below.Goals as goal

pub loop-key-init : goal.loop-key-init
loop-key-init c = (search many_none, search rules)

pub loop-key-preserved : goal.loop-key-preserved
loop-key-preserved c = (search (many_turn, rules), search rules)

pub returns : goal.returns
returns c = search (many_done, rules)
