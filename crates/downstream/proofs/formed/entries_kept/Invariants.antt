-- The invariant: of the o messages after p every entry is kept exactly where `kept` says so.
use Prim.Native.Nat.{◌+◌}
use mathlib.Core.Path.{◌≡◌}
use lib.ListN.{get_or}
use Rattle.basics.specs.Sums.{all_below}
use Rattle.downstream.specs.State.{place_after, no_entry}
use Rattle.downstream.specs.Formed.{entry_kept}
use Rattle.downstream.proofs.formed.entries_kept.Given as goal

abbrev pub invariant-loop-o : goal.invariant-loop-o
invariant-loop-o l = l.kept ≡ all_below l.o (λ j. entry_kept l.n l.numbers l.masks l.s (l.p + 1 + j) (get_or l.entries (place_after l.p j) no_entry))
