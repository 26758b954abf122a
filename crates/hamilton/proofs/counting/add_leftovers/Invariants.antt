-- The invariant: the counts stand before place i, and the quotas from it on.
use Prim.Native.Nat.{◌+◌}
use mathlib.Core.Path.{◌≡◌}
use mathlib.Core.Bool.{cond}
use mathlib.Core.List.{◌++◌}
use lib.Dec.{ltb}
use lib.ListN.{length, get_or, drop}
use Rattle.basics.specs.Sums.{list_below}
use Rattle.hamilton.proofs.counting.add_leftovers.Given as goal

abbrev pub invariant-loop-i : goal.invariant-loop-i
invariant-loop-i l = (length l.out ≡ length l.initial.out) × (l.out ≡ list_below l.i (λ j. get_or l.initial.out j 0 + cond (ltb (get_or l.keys j 0) l.end) 1 0) ++ drop l.i l.initial.out)
