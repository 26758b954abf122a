-- The invariant: the set is that of the members before i that lack the message.
use mathlib.Core.Path.{◌≡◌}
use mathlib.Core.Bool.{not}
use Rattle.marks.specs.Masks.{set_below}
use Rattle.downstream.specs.State.{held_by}
use Rattle.downstream.proofs.columns.lacking.Given as goal

abbrev pub invariant-loop-i : goal.invariant-loop-i
invariant-loop-i l = l.set ≡ set_below l.i (λ j. not (held_by l.numbers l.masks l.k j))
