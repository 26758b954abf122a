-- The invariant: the columns hold the first j steps, and `at` is where step j starts.
use Prim.Native.Nat.{◌+◌, ◌-◌}
use mathlib.Core.Path.{◌≡◌}
use lib.ListN.{length}
use Rattle.circle.specs.Positions.{position_of}
use Rattle.circle.specs.TurnTable.{FirstSteps}
use Rattle.circle.proofs.table.fill_turn.Given as goal

abbrev pub invariant-loop-j : goal.invariant-loop-j
invariant-loop-j l = (l.at ≡ position_of l.ss l.rs (length l.ss - 1) (l.j + 1)) × FirstSteps l.ss l.rs l.senders l.receivers l.begins l.j
