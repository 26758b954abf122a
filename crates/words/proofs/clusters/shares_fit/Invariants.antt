-- The invariant: the shares before this one are allowed exactly where `off` is 0.
use Rattle.words.specs.Taken.{word_at}
use Rattle.shares.specs.Cluster.{is_share}
use Rattle.basics.specs.Sums.{all_below}
use lib.Dec.{eqb}
use mathlib.Core.Path.{◌≡◌}
use Prim.Native.Nat.{◌+◌}
use Rattle.words.proofs.clusters.shares_fit.Given as goal

abbrev pub invariant-loop-share : goal.invariant-loop-share
invariant-loop-share l = eqb l.off 0 ≡ all_below l.share-index (λ j. is_share (word_at l.words (l.at + j)))
