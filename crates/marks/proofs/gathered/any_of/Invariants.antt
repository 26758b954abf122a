-- The invariant: the bits of the words before this one are gathered.
use Rattle.std.proofs.Common.{◌≡◌, take}
use Rattle.marks.specs.Gathered.{any_of}
use Rattle.marks.proofs.gathered.any_of.Given as goal

abbrev pub invariant-loop-set : goal.invariant-loop-set
invariant-loop-set l = l.any ≡ any_of (take l.set-index l.sets)
