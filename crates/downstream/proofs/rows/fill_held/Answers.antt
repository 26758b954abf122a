use Rattle.downstream.proofs.RowLaws.{rows_start, rows_turn}
use borrow.Author.Rules.{rules}
use Rattle.downstream.proofs.rows.fill_held.Goals as goal

pub loop-i-init : goal.loop-i-init
loop-i-init c = rows_start c.args.numbers.now c.args.masks.now c.args.p c.args.out.now

pub loop-i-preserved : goal.loop-i-preserved
loop-i-preserved c = search (rows_turn, rules)
