-- A report from member i: which refusal it gets. Assumes nothing.
use Rattle.std.specs.Prelude.{◌≡◌, true, not, [], ◌∷◌, ℕ, ◌≤◌, leb, ltb}
use Rattle.basics.specs.Checks.{◌else◌, first_failing}
use Rattle.marks.specs.Masks.{is_marked}
use Rattle.marks.specs.Held.{none_above}
use Rattle.downstream.specs.declared.state.Report.{Report}
use Rattle.downstream.specs.State.{report_at}
use Rattle.judging.specs.Reports.{keeps_all, Accepting}
use Rattle.window.specs.declared.state.Window.{Window}
use Rattle.window.specs.Formed.{well_formed}

-- Report: 17, 5, 8, 12, 11, 13
unfoldable pub report_refusal : Window → ℕ → ℕ → ℕ → ℕ → ℕ
report_refusal w i c mask room =
    first_failing (
    (well_formed w else 17)
    ∷ (leb 1_024 room else 5)
    ∷ (ltb i w.downstream.cluster.members else 8)
    ∷ (not (is_marked mask 0) else 12)
    ∷ (none_above c mask w.sent else 11)
    ∷ (keeps_all (report_at w.downstream.reports i) c mask else 13)
    ∷ [])

-- the same of a well-formed state: what is asked of the report itself, its member's former one being at hand
unfoldable pub given_refusal : ℕ → ℕ → Report → ℕ → ℕ → ℕ → ℕ → ℕ
given_refusal members s former i c mask room =
    first_failing (
    (leb 1_024 room else 5)
    ∷ (ltb i members else 8)
    ∷ (not (is_marked mask 0) else 12)
    ∷ (none_above c mask s else 11)
    ∷ (keeps_all former c mask else 13)
    ∷ [])

-- what is known where a report is accepted
pub record Reportable (w : Window) (i c mask room : ℕ) : Type 0 where
  pub formed : well_formed w ≡ true
  pub enough : 1_024 ≤ room
  pub accepting : Accepting w.downstream w.sent i c mask
