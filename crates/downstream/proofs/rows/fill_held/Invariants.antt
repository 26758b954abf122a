-- The invariant: the words of the first i members stand in front, and everything behind them is as it was.
use mathlib.Core.Path.{◌≡◌}
use mathlib.Core.List.{◌++◌}
use lib.ListN.{drop}
use Rattle.downstream.specs.Rows.{held_rows}
use Rattle.downstream.proofs.rows.fill_held.Given as goal

abbrev pub invariant-loop-i : goal.invariant-loop-i
invariant-loop-i l = l.out ≡ held_rows l.numbers l.masks l.p l.i ++ drop l.i l.initial.out
