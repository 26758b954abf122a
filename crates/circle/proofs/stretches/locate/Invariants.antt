-- The invariant: before member i's stretch there are x - rest units, so x lies in no stretch before it.
use Prim.Native.Nat.{◌+◌}
use mathlib.Core.Path.{◌≡◌}
use Rattle.circle.specs.Stretches.{scaled, units_before}
use Rattle.circle.proofs.stretches.locate.Given as goal

abbrev pub invariant-loop-i : goal.invariant-loop-i
invariant-loop-i l = units_before (scaled l.factor l.shares) l.i + l.rest ≡ l.x
