-- The invariant: both numbers are those of the members before place count-index, and the slots are no more than all the members'.
use Prim.Native.Nat.{◌≤◌, min}
use mathlib.Core.Path.{◌≡◌}
use lib.ListN.{length, get_or}
use Rattle.basics.specs.Sums.{sum_below}
use Rattle.deal.specs.Dealing.{takers_before}
use Rattle.deal.proofs.slots.round_at.Given as goal

abbrev pub invariant-loop-count : goal.invariant-loop-count
invariant-loop-count l = (l.before ≡ sum_below l.count-index (λ j. min (get_or l.counts j 0) l.t)) × (l.takers ≡ takers_before l.counts l.t l.count-index) × (l.takers ≤ l.count-index) × (sum_below (length l.counts) (λ j. min (get_or l.counts j 0) l.t) ≤ 4294967295)
