-- The whole answer of a report, and every byte of the output that was lent to it. Assumes nothing.
use Rattle.std.specs.Prelude.{cond, Result, Ok, Err, List, ◌++◌, ℕ, eqb, length, drop}
use Rattle.downstream.specs.declared.state.Cluster.{Cluster}
use Rattle.downstream.specs.declared.state.Downstream.{Downstream}
use Rattle.window.specs.declared.state.Window.{Window}
use Rattle.basics.specs.declared.refusal.Refusal.{Refusal}
use Rattle.basics.specs.Refusals.{outcome_number}
use Rattle.window.specs.declared.reporting.ReportAnswer as code
use Rattle.window.specs.declared.reporting.Step.{Step}
use Rattle.judging.specs.Complaints.{taken_of}
use Rattle.judging.specs.Verdicts.{judged_of}
use Rattle.verdicts.specs.Written.{verdicts_of, verdict_count}
use Rattle.window.specs.Reporting.{report_refusal}

-- Steps of an accepted report: store it; work out p and empty collected entries; hear the complaints; then the verdicts
unfoldable pub step_of : Downstream → ℕ → ℕ → ℕ → ℕ → Step
step_of d s i c mask = record { verdicts = verdict_count (taken_of d s i c mask) s; downstream = judged_of (taken_of d s i c mask) s }

-- Verdicts fill the lent output one after another; later bytes stay
unfoldable pub step_out : Cluster → ℕ → Downstream → ℕ → ℕ → ℕ → ℕ → List ℕ → List ℕ
step_out sending q d s i c mask out =
    verdicts_of sending q (taken_of d s i c mask) s ++ drop (length (verdicts_of sending q (taken_of d s i c mask) s)) out

-- the window with all that belongs to the receiving cluster as it then is
abbrev pub with_downstream : Window → Downstream → Window
with_downstream w d = record { sending = w.sending; quantum = w.quantum; sent = w.sent; downstream = d }

-- a refusal's number, 0 for none, how many verdicts were written, and a state
pub record ReportAnswer : Type 0 where
  pub refusal : ℕ
  pub verdicts : ℕ
  pub window : Window

-- an accepted report's step; a refusal leaves the state and every byte as they were
unfoldable pub report_of : Window → ℕ → ℕ → ℕ → ℕ → ReportAnswer
report_of w i c mask room =
    cond (eqb (report_refusal w i c mask room) 0)
    (record { refusal = 0; verdicts = (step_of w.downstream w.sent i c mask).verdicts; window = with_downstream w (step_of w.downstream w.sent i c mask).downstream })
    (record { refusal = report_refusal w i c mask room; verdicts = 0; window = w })

unfoldable pub report_out : Window → ℕ → ℕ → ℕ → List ℕ → List ℕ
report_out w i c mask out =
    cond (eqb (report_refusal w i c mask (length out)) 0)
    (step_out w.sending w.quantum w.downstream w.sent i c mask out)
    out

-- the same of what the call hands back: a refused report writes none
abbrev pub written : Result ℕ Refusal → ℕ
written (Ok n) = n
written (Err x) = 0

abbrev pub told : code.ReportAnswer → ReportAnswer
told a = record { refusal = outcome_number a.outcome; verdicts = written a.outcome; window = a.window }
