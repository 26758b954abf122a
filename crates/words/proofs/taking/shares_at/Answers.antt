use mathlib.Core.Path.{refl}
use Rattle.basics.proofs.SumLaws.{list_start}
use Rattle.words.specs.Taken.{column_at}
use Rattle.words.proofs.ColumnLaws.{fill_turn, fill_done}
use Rattle.words.proofs.FitLaws.{share_at}
use borrow.Author.Rules.{rules}
use Rattle.words.proofs.taking.shares_at.Goals as goal

pub loop-i-init : goal.loop-i-init
loop-i-init c = (refl, search list_start)

pub overflow_cast-share : goal.overflow_cast-share
overflow_cast-share c = search (share_at, rules)

pub loop-i-preserved : goal.loop-i-preserved
loop-i-preserved c = (search rules, search (fill_turn, rules))

pub returns : goal.returns
unfolding column_at
returns c = search (fill_done, rules)
