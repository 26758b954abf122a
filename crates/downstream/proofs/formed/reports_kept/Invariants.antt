-- The invariant: every report before place i is kept exactly where `kept` says so.
use mathlib.Core.Path.{◌≡◌}
use Rattle.basics.specs.Sums.{all_below}
use Rattle.downstream.specs.State.{report_at}
use Rattle.downstream.specs.Formed.{report_kept}
use Rattle.downstream.proofs.formed.reports_kept.Given as goal

abbrev pub invariant-loop-i : goal.invariant-loop-i
invariant-loop-i l = l.kept ≡ all_below l.i (λ j. report_kept l.members l.s j (report_at l.fn.reports j))
