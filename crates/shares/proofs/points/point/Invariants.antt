-- The invariant: `best` is the best of the values before this one; in the end that is the point.
use Rattle.std.proofs.Common.{◌≡◌, get_or}
use lib.Dec.{leb}
use Rattle.shares.specs.Point.{reached_of}
use Rattle.shares.proofs.PointLaws.{best_of}
use Rattle.shares.proofs.points.point.Given as goal

abbrev pub invariant-loop-v : goal.invariant-loop-v
invariant-loop-v l = l.best ≡ best_of (λ g. leb l.t (reached_of l.shares l.values g)) (λ j. get_or l.values j 0) l.v-index
