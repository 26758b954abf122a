-- Ill-formed words are 17 and stay; so do those of a refused report; an accepted one puts what it changes.
use Rattle.std.proofs.Common.{refl, ◌∙◌}
use Rattle.basics.proofs.RefusalLaws.{not_zero}
use Rattle.link.proofs.WindowLaws.{fit_known, well_told, report_ill, report_ill_words, report_ill_bytes, report_ill_answer, report_refused, report_refused_words, report_refused_bytes, report_refused_answer, report_done, report_done_words, report_done_bytes, report_done_answer}
use Rattle.window.proofs.ReportLaws.{report_ready}
use Rattle.link.proofs.windows.havdorlek_report.Goals as goal

pub returns-then-not-formed : goal.returns-then-not-formed
returns-then-not-formed c =
    let e = c.formed.ensures in
    let ill = c.if-not-formed.true in
    (c.number.ensures ∙ report_ill _ _ e ill _ _ _ _, report_ill_words _ _ e ill _ _ _ _, report_ill_bytes _ _ e ill _ _ _ _, report_ill_answer _ _ e ill _ _ _ _)

pub report_refusal-requires : goal.report_refusal-requires
report_refusal-requires c = well_told _ _ c.formed.ensures c.if-not-formed.false

pub take_report-verdicts-requires : goal.take_report-verdicts-requires
take_report-verdicts-requires c = (fit_known _ _ c.formed.ensures c.if-not-formed.false, report_ready _ _ _ _ _ _ c.in-Ok.ensures refl)

pub returns-in-Ok : goal.returns-in-Ok
returns-in-Ok c =
    let e = c.formed.ensures in
    let well = c.if-not-formed.false in
    let d = c.in-Ok.ensures in
    let step = c.take_report-verdicts.ensures in
    (report_done _ _ e well _ _ _ _ _ d refl, report_done_words _ _ e well _ _ _ _ _ d _ refl step.1, report_done_bytes _ _ e well _ _ _ _ _ d _ refl step.2, report_done_answer _ _ e well _ _ _ _ _ d _ refl (c.from.ensures ∙ step.0))

pub returns-in-Err : goal.returns-in-Err
returns-in-Err c =
    let e = c.formed.ensures in
    let well = c.if-not-formed.false in
    let d = c.in-Err.ensures in
    (c.number-in-Err.ensures ∙ report_refused _ _ e well _ _ _ _ _ d (not_zero _), report_refused_words _ _ e well _ _ _ _ _ d (not_zero _), report_refused_bytes _ _ e well _ _ _ _ _ d (not_zero _), report_refused_answer _ _ e well _ _ _ _ _ d (not_zero _))
