-- The invariant: `found` is how many of the keys before place key-index are below the end.
use Prim.Native.Nat.{◌≤◌}
use mathlib.Core.Path.{◌≡◌}
use lib.Dec.{ltb}
use lib.ListN.{get_or}
use Rattle.basics.specs.Sums.{how_many}
use Rattle.hamilton.proofs.ranks.below.Given as goal

abbrev pub invariant-loop-key : goal.invariant-loop-key
invariant-loop-key l = (l.found ≡ how_many l.key-index (λ m. ltb (get_or l.keys m 0) l.end)) × (l.found ≤ l.key-index)
