-- The invariant: what is counted, and what the records left would add, is the whole.
use Rattle.input.specs.Input.{shares_from}
use Prim.Native.Nat.{◌+◌, ◌-◌}
use mathlib.Core.Path.{◌≡◌}
use Rattle.input.proofs.input.shares_from.Given as goal

abbrev pub invariant-loop-r : goal.invariant-loop-r
invariant-loop-r l = l.r + shares_from l.k l.s (l.i + l.r) (l.n - l.r) ≡ shares_from l.k l.s l.i l.n
