-- The invariant: the first j places hold the first j shares, and the later places are as they were.
use Rattle.input.specs.Input.{shares_at}
use mathlib.Core.Path.{◌≡◌}
use mathlib.Core.List.{◌++◌}
use lib.ListN.{drop}
use Rattle.input.proofs.input.fill_shares.Given as goal

abbrev pub invariant-loop-j : goal.invariant-loop-j
invariant-loop-j l = l.share-items ≡ shares_at l.s l.i l.j ++ drop l.j l.initial.share-items
