-- The invariant: `any` has all that the sets before o name.
use Prim.Native.Nat.{◌-◌}
use mathlib.Core.Path.{◌≡◌}
use Rattle.downstream.specs.Rows.{named_among}
use Rattle.downstream.proofs.sets.named_among.Given as goal

abbrev pub invariant-loop-o : goal.invariant-loop-o
invariant-loop-o l = l.any ≡ named_among l.complaints l.p l.from (l.o - l.from)
