-- Each answer is that of the first check that fails.
use Rattle.std.proofs.Common.{◌∙◌}
use Rattle.basics.proofs.CheckLaws.{checks}
use Rattle.basics.proofs.RefusalLaws.{passed, refused}
use Rattle.resend.proofs.ResendLaws.{resend_clusters, resend_judged}
use Rattle.resend.proofs.pairs.resend_refusal.Goals as goal

pub returns-in_err-refusal : goal.returns-in_err-refusal
returns-in_err-refusal c =
    let same = refused _ c.from_residual.result _ c.in_err-refusal.was c.from_residual.ensures.1 in
    resend_clusters _ _ _ _ _ _ _ _ _ _ (same.0 ∙ c.refusal.ensures) same.1

pub returns-then-not-is_message : goal.returns-then-not-is_message
returns-then-not-is_message c =
    let ok = passed _ _ c.in_ok-refusal.was in
    resend_judged _ _ _ _ _ _ _ _ _ _ c.refusal.ensures _ ok (search checks)

pub returns-then-not-is_resend : goal.returns-then-not-is_resend
returns-then-not-is_resend c =
    let ok = passed _ _ c.in_ok-refusal.was in
    resend_judged _ _ _ _ _ _ _ _ _ _ c.refusal.ensures _ ok (search checks)

pub returns : goal.returns
returns c =
    let ok = passed _ _ c.in_ok-refusal.was in
    resend_judged _ _ _ _ _ _ _ _ _ _ c.refusal.ensures _ ok (search checks)
