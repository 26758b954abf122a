-- The invariant: `seen` is how many members before place i take a slot in round t, and they are not too many.
use Prim.Native.Nat.{◌≤◌}
use mathlib.Core.Path.{◌≡◌}
use lib.ListN.{length}
use Rattle.deal.specs.Dealing.{takers_before}
use Rattle.deal.proofs.dealer.member_past.Given as goal

abbrev pub invariant-loop-i : goal.invariant-loop-i
invariant-loop-i l = (l.place ≤ takers_before l.counts l.t (length l.counts)) × (l.seen ≡ takers_before l.counts l.t l.i) × (l.seen ≤ l.place) × (l.seen ≤ l.i)
