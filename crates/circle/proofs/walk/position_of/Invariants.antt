-- The invariant: `at` is where resend k + 1 starts, and as many steps are left as lead to where resend n starts.
use Prim.Native.Nat.{◌+◌, ◌≤◌}
use mathlib.Core.Path.{◌≡◌}
use Rattle.circle.specs.Positions.{position_of}
use Rattle.circle.proofs.walk.position_of.Given as goal

abbrev pub invariant-loop-left : goal.invariant-loop-left
invariant-loop-left l = (l.k + 1 + l.left ≤ l.n) × (l.at ≡ position_of l.ss l.rs l.i (l.k + 1)) × (position_of l.ss l.rs l.i (l.k + 1 + l.left) ≡ position_of l.ss l.rs l.i l.n)

abbrev pub decreases-loop-left : goal.decreases-loop-left
decreases-loop-left l = l.left
