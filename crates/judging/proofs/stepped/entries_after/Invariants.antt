-- The invariant: the entries of the o messages after p have had their step, and every other is empty.
use mathlib.Core.Path.{◌≡◌}
use Prim.Native.Nat.{ℕ, ◌<◌}
use Rattle.downstream.specs.declared.state.Entry.{Entry}
use Rattle.judging.specs.Complaints.{entries_after}
use Rattle.judging.proofs.stepped.entries_after.Given as goal

abbrev pub invariant-loop-o : goal.invariant-loop-o
invariant-loop-o g l = (f : ℕ → Entry → Entry) → ((o : ℕ) (e r : Entry) → o < l.n → goal.F-post g l.step o e r → r ≡ f o e) → l.next ≡ entries_after f l.p l.o l.entries
