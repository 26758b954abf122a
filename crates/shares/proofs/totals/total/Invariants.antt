-- The invariant: `sum` is that of the shares before this one, and each of them has 32 bits.
use Rattle.std.proofs.Common.{◌≡◌, ◌*◌, ◌≤◌, get_or}
use Rattle.basics.specs.Sums.{sum_below}
use Rattle.shares.proofs.totals.total.Given as goal

abbrev pub invariant-loop-share : goal.invariant-loop-share
invariant-loop-share l = (l.sum ≡ sum_below l.share-index (λ j. get_or l.shares j 0)) × (l.sum ≤ l.share-index * 4294967295)
