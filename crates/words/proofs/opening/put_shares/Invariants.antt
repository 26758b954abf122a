-- The invariant: the shares stand before place i, and zeros from it on.
use mathlib.Core.Path.{◌≡◌}
use mathlib.Core.List.{◌++◌}
use lib.ListN.{drop, get_or}
use Rattle.basics.specs.Sums.{list_below}
use Rattle.words.proofs.opening.put_shares.Given as goal

abbrev pub invariant-loop-i : goal.invariant-loop-i
invariant-loop-i l = l.out ≡ list_below l.i (λ j. get_or l.shares j 0) ++ drop l.i l.initial.out
