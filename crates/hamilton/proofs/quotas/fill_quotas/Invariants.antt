-- The invariant: quotas and keys stand before place i, what was there from it on, and `rest` and the quotas before place i are the quantum.
use Prim.Native.Nat.{◌+◌}
use mathlib.Core.Path.{◌≡◌}
use mathlib.Core.List.{◌++◌}
use lib.ListN.{length, drop}
use Rattle.basics.specs.Sums.{sum_below, list_below}
use Rattle.hamilton.specs.Hamilton.{quota_of}
use Rattle.hamilton.proofs.QuotaLaws.{key}
use Rattle.hamilton.proofs.quotas.fill_quotas.Given as goal

abbrev pub invariant-loop-i : goal.invariant-loop-i
invariant-loop-i l = (l.rest + sum_below l.i (quota_of l.shares l.q) ≡ l.q)
    × (length l.out ≡ length l.initial.out)
    × (l.out ≡ list_below l.i (quota_of l.shares l.q) ++ drop l.i l.initial.out)
    × (length l.keys ≡ length l.initial.keys)
    × (l.keys ≡ list_below l.i (key l.shares l.q) ++ drop l.i l.initial.keys)
