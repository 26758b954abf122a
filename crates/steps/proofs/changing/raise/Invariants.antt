-- The invariant: what is left to change gives both columns as they are to be, and no count that is left is above 255.
use mathlib.Core.Path.{◌≡◌}
use Prim.Native.Nat.{◌+◌}
use Rattle.steps.specs.Columns.{changed_at}
use Rattle.steps.proofs.ChangeLaws.{SmallAt}
use Rattle.steps.proofs.changing.raise.Given as goal

abbrev pub invariant-loop-o : goal.invariant-loop-o
invariant-loop-o l = SmallAt l.o-iterator.0 l.p l.counts × (changed_at (λ count. count + 1) l.o-iterator.0 l.p l.counts ≡ changed_at (λ count. count + 1) l.due l.p l.initial.counts) × (changed_at (λ _. 0) l.o-iterator.0 l.p l.sets ≡ changed_at (λ _. 0) l.due l.p l.initial.sets)
