-- A refusal changes nothing; an accepted report goes through its steps.
use Rattle.std.proofs.Common.{refl}
use Rattle.basics.proofs.RefusalLaws.{not_zero}
use Rattle.window.proofs.ReportLaws.{report_refused, report_kept_lem, report_ready, report_told, report_out_lem}
use Rattle.window.proofs.state.Window.report.Goals as goal

pub returns-in-Err : goal.returns-in-Err
returns-in-Err c = (report_refused _ _ _ _ _ _ c.in-Err.ensures (not_zero _), report_kept_lem _ _ _ _ _ _ c.in-Err.ensures (not_zero _))

pub step_of-step-requires : goal.step_of-step-requires
step_of-step-requires c = report_ready _ _ _ _ _ _ c.in-Ok.ensures refl

pub returns-in-Ok : goal.returns-in-Ok
returns-in-Ok c =
    (report_told _ _ _ _ _ _ c.in-Ok.ensures refl _ c.step_of-step.ensures.0, report_out_lem _ _ _ _ _ _ c.in-Ok.ensures refl _ c.step_of-step.ensures.1)
