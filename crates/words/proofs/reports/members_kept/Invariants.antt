-- The invariant: the reports before i are kept exactly where `kept` says so.
use Rattle.words.specs.Taken.{report_in}
use Rattle.downstream.specs.Formed.{report_kept}
use Rattle.basics.specs.Sums.{all_below}
use mathlib.Core.Path.{◌≡◌}
use Rattle.words.proofs.reports.members_kept.Given as goal

abbrev pub invariant-loop-i : goal.invariant-loop-i
invariant-loop-i l = l.kept ≡ all_below l.i (λ j. report_kept l.members l.s j (report_in l.words j))
