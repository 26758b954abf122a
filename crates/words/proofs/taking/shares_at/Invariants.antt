-- The invariant: the shares before i are taken.
use Prim.Native.Nat.{◌+◌}
use mathlib.Core.Path.{◌≡◌}
use mathlib.Core.List.{◌++◌}
use lib.ListN.{length, drop, replicate}
use Rattle.basics.specs.Sums.{list_below}
use Rattle.words.specs.Taken.{word_at}
use Rattle.words.proofs.taking.shares_at.Given as goal

abbrev pub invariant-loop-i : goal.invariant-loop-i
invariant-loop-i l = (length l.share-items ≡ 64) × (l.share-items ≡ list_below l.i (λ j. word_at l.words (l.at + j)) ++ drop l.i (replicate 64 0))
