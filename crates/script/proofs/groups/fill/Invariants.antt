-- The invariant: what is filled lies within the input, whose length stays.
use Prim.Native.Nat.{◌≤◌}
use mathlib.Core.Path.{◌≡◌}
use lib.ListN.{length}
use Rattle.script.proofs.groups.fill.Given as goal

abbrev pub invariant-loop-group : goal.invariant-loop-group
invariant-loop-group l = (goal.iterator-loop-group).can_next l.group-iterator × (goal.iterator-loop-group).is_finite l.group-iterator × (l.done ≤ length l.bytes) × (length l.bytes ≡ length l.initial.bytes)
