-- The invariant: the slot is so many places past the rounds before this one, and the takers are this one's.
use Prim.Native.Nat.{◌+◌, ◌≤◌, ◌-◌, ◌<◌}
use mathlib.Core.Path.{◌≡◌}
use lib.ListN.{length}
use Rattle.deal.specs.Rounds.{slots_before}
use Rattle.deal.specs.Dealing.{takers_before}
use Rattle.deal.proofs.slots.spot_of.Given as goal

abbrev pub invariant-loop-takers : goal.invariant-loop-takers
invariant-loop-takers l = (l.round < l.q) × (length l.counts ≤ 64) × (l.slot < slots_before l.counts l.q) × (slots_before l.counts l.q ≤ 4294967295) × (slots_before l.counts l.round + l.place ≡ l.slot) × (l.takers ≡ takers_before l.counts l.round (length l.counts))

abbrev pub decreases-loop-takers : goal.decreases-loop-takers
decreases-loop-takers l = l.q - l.round
