-- The invariant: the places before j are filled.
use Prim.Native.Nat.{◌+◌}
use mathlib.Core.Path.{◌≡◌}
use mathlib.Core.Bool.{cond}
use mathlib.Core.List.{◌++◌}
use lib.Dec.{ltb}
use lib.ListN.{length, drop, replicate}
use Rattle.basics.specs.Sums.{list_below}
use Rattle.downstream.specs.State.{offset_at}
use Rattle.words.specs.Taken.{word_at}
use Rattle.steps.proofs.columns.emptied_at.Given as goal

abbrev pub invariant-loop-j : goal.invariant-loop-j
invariant-loop-j l = (length l.word-items ≡ 64) × (l.word-items ≡ list_below l.j (λ x. cond (ltb (offset_at l.p x) l.n) (word_at l.words (l.at + x)) 0) ++ drop l.j (replicate 64 0))
