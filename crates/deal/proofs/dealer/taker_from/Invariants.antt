-- The invariant: none of the members that were passed over takes a slot.
use mathlib.Core.Path.{◌≡◌}
use Rattle.deal.specs.Dealing.{takers_before}
use Rattle.deal.proofs.dealer.taker_from.Given as goal

abbrev pub invariant-loop-i : goal.invariant-loop-i
invariant-loop-i l = (takers_before l.counts l.t l.i ≡ takers_before l.counts l.t l.from)
