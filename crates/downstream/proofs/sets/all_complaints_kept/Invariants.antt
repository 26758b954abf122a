-- The invariant: the sets of the first o messages are kept just where `kept` says so.
use Prim.Native.Nat.{◌≤◌, ◌-◌}
use mathlib.Core.Path.{◌≡◌}
use Rattle.downstream.specs.Rows.{held_rows, Steady, all_complaints_kept}
use Rattle.downstream.proofs.sets.all_complaints_kept.Given as goal

abbrev pub invariant-loop-o : goal.invariant-loop-o
invariant-loop-o l = (l.o ≤ l.n) × (l.n ≤ 64) × (l.members ≤ 64) × (l.p ≤ 1000000000000) × Steady (held_rows l.numbers l.masks l.p l.members) l.members l.changing × (l.kept ≡ all_complaints_kept l.members l.numbers l.masks l.complaints l.p l.o)

abbrev pub decreases-loop-o : goal.decreases-loop-o
decreases-loop-o l = l.n - l.o
