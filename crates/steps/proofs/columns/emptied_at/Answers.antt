use mathlib.Core.Path.{refl}
use Rattle.basics.proofs.SumLaws.{list_start}
use Rattle.words.proofs.ColumnLaws.{fill_turn, fill_done}
use Rattle.steps.specs.Columns.{open_at}
use borrow.Author.Rules.{rules}
use Rattle.steps.proofs.columns.emptied_at.Goals as goal

pub loop-j-init : goal.loop-j-init
loop-j-init c = (refl, search list_start)

pub loop-j-preserved : goal.loop-j-preserved
loop-j-preserved c = (search rules, search (fill_turn, rules))

pub returns : goal.returns
unfolding open_at
returns c = search (fill_done, rules)
