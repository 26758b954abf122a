use Rattle.downstream.proofs.RowLaws.{steady_start, steady_turn}
use Rattle.downstream.proofs.rows.changes.Goals as goal

pub loop-row-init : goal.loop-row-init
loop-row-init c = search steady_start

pub loop-row-preserved : goal.loop-row-preserved
loop-row-preserved c = search steady_turn
