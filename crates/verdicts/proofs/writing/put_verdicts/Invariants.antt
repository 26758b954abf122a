-- The invariant: the verdicts on the first o messages stand in front, everything behind them is as it was, and the next slot is that of the
-- message at offset o.
use Prim.Native.Nat.{◌+◌, ◌≤◌, ◌*◌, ◌%◌}
use mathlib.Core.Path.{◌≡◌}
use mathlib.Core.List.{◌++◌}
use lib.ListN.{length, drop}
use Rattle.verdicts.specs.Written.{verdicts_to}
use Rattle.verdicts.proofs.writing.put_verdicts.Given as goal

abbrev pub invariant-loop-o : goal.invariant-loop-o
invariant-loop-o l = (length l.out ≡ length l.initial.out) × (l.at ≤ 16 * l.o) × (l.at ≡ length (verdicts_to l.table.ss.now l.table.rs.now l.fn.dealer.q l.due l.counts l.p l.o)) × (l.out ≡ verdicts_to l.table.ss.now l.table.rs.now l.fn.dealer.q l.due l.counts l.p l.o ++ drop l.at l.initial.out) × (l.dealer.counts.now ≡ l.fn.dealer.counts.now) × (l.dealer.q ≡ l.fn.dealer.q) × (l.dealer.slot ≡ (l.p + l.o) % l.fn.dealer.q)
