-- The invariant: the bits tell of the shares before this one, with those taken beforehand, and the total is theirs, counted round.
use Rattle.std.proofs.Common.{◌≡◌, ◌+◌, ◌%◌, get_or}
use lib.Dec.{ltb}
use Rattle.basics.specs.Sums.{sum_below, all_below}
use Rattle.shares.specs.Cluster.{is_share}
use Rattle.shares.proofs.weighing.weigh.Given as goal

abbrev pub invariant-loop-share : goal.invariant-loop-share
invariant-loop-share l =
    (ltb l.bits 2147483648 ≡ all_below (l.taken + l.share-index) (λ j. is_share (get_or l.shares j 0)))
    × (l.total ≡ sum_below (l.taken + l.share-index) (λ j. get_or l.shares j 0) % 4294967296)
