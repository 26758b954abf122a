use Rattle.input.proofs.RecordLaws.{counting}
use borrow.Author.Rules.{rules}
use Rattle.input.proofs.input.shares_from.Goals as goal

pub loop-r-init : goal.loop-r-init
loop-r-init c = search counting

pub loop-r-preserved : goal.loop-r-preserved
loop-r-preserved c = search counting

pub returns-then-not-is_share : goal.returns-then-not-is_share
returns-then-not-is_share c = (search counting, search rules)

pub returns : goal.returns
returns c = (search counting, search rules)
