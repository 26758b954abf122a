-- The invariant: at most `rest` keys are below the low end, and more than `rest` below the high end.
use Prim.Native.Nat.{◌≤◌, ◌<◌, ◌-◌}
use lib.Dec.{ltb}
use lib.ListN.{length, get_or}
use Rattle.basics.specs.Sums.{how_many}
use Rattle.hamilton.proofs.ranks.threshold.Given as goal

abbrev pub invariant-loop-low : goal.invariant-loop-low
invariant-loop-low l = (l.low ≤ l.end)
    × (l.high ≤ l.end)
    × (l.member < length l.keys)
    × (l.step < length l.keys)
    × (how_many (length l.keys) (λ j. ltb (get_or l.keys j 0) l.low) ≤ l.rest)
    × (l.rest < how_many (length l.keys) (λ j. ltb (get_or l.keys j 0) l.high))

abbrev pub decreases-loop-low : goal.decreases-loop-low
decreases-loop-low l = l.high - l.low
