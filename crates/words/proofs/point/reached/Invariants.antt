-- The invariant: `sum` is that of the members before i that reach g, and each share has 32 bits.
use Rattle.words.specs.Taken.{word_at}
use Rattle.basics.specs.Sums.{sum_below}
use lib.Dec.{leb}
use mathlib.Core.Bool.{cond}
use mathlib.Core.Path.{◌≡◌}
use Prim.Native.Nat.{◌≤◌, ◌+◌, ◌*◌}
use Rattle.words.proofs.point.reached.Given as goal

abbrev pub invariant-loop-i : goal.invariant-loop-i
invariant-loop-i l = (l.sum ≡ sum_below l.i (λ j. cond (leb l.g (word_at l.words (137 + j))) (word_at l.words (70 + j)) 0)) × (l.sum ≤ l.i * 4294967295)
