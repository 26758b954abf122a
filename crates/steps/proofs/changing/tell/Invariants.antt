-- The invariant: what is left to change gives the sets as they are to be.
use mathlib.Core.Path.{◌≡◌}
use Rattle.steps.specs.Columns.{changed_at, told_set}
use Rattle.steps.proofs.changing.tell.Given as goal

abbrev pub invariant-loop-o : goal.invariant-loop-o
invariant-loop-o l = changed_at (told_set l.complains l.i) l.o-iterator.0 l.p l.sets ≡ changed_at (told_set l.complains l.i) l.messages l.p l.initial.sets
