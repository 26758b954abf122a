-- The invariant: the set is that of the lost ones among the first o.
use Prim.Native.Nat.{◌≤◌, ◌-◌}
use mathlib.Core.Path.{◌≡◌}
use lib.ListN.{length}
use Rattle.marks.specs.Masks.{set_below}
use Rattle.downstream.specs.Rows.{Steady}
use Rattle.judging.specs.Verdicts.{is_lost}
use Rattle.judging.proofs.lost.lost_among.Given as goal

abbrev pub invariant-loop-o : goal.invariant-loop-o
invariant-loop-o l = (l.o ≤ l.n) × (l.n ≤ 64) × (length l.shares ≤ 64) × (length l.rows ≡ length l.shares) × Steady l.rows (length l.rows) l.changing × (l.set ≡ set_below l.o (is_lost l.shares l.u l.rows l.enough))

abbrev pub decreases-loop-o : goal.decreases-loop-o
decreases-loop-o l = l.n - l.o
