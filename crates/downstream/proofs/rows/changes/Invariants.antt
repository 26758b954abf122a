-- The invariant: where the set has no bit, none of the words before this one changes.
use Rattle.downstream.specs.Rows.{Steady}
use Rattle.downstream.proofs.rows.changes.Given as goal

abbrev pub invariant-loop-row : goal.invariant-loop-row
invariant-loop-row l = Steady l.rows l.row-index l.set
