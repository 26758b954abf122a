-- Each answer is that of the first check that fails.
use Rattle.std.proofs.Common.{◌∙◌}
use Rattle.basics.proofs.CheckLaws.{checks}
use Rattle.basics.proofs.RefusalLaws.{passed, refused}
use Rattle.deal.proofs.JudgeLaws.{pair_sending, pair_receiving, pair_judged}
use Rattle.deal.proofs.link.Link.refusal.Goals as goal

pub returns-in_err-refusal : goal.returns-in_err-refusal
returns-in_err-refusal c =
    let same = refused _ c.from_residual.result _ c.in_err-refusal.was c.from_residual.ensures.1 in
    pair_sending _ _ _ _ _ _ _ _ (same.0 ∙ c.refusal.ensures) same.1

pub returns-in_err-refusal-2 : goal.returns-in_err-refusal-2
returns-in_err-refusal-2 c =
    let ok = passed _ _ c.in_ok-refusal.was in
    let same = refused _ c.from_residual-in_err-refusal-2.result _ c.in_err-refusal-2.was c.from_residual-in_err-refusal-2.ensures.1 in
    pair_receiving _ _ _ _ _ _ _ _ c.refusal.ensures ok _ (same.0 ∙ c.refusal-2.ensures) same.1

pub returns-then-not-is_quantum : goal.returns-then-not-is_quantum
returns-then-not-is_quantum c =
    let sending = passed _ _ c.in_ok-refusal.was in
    let receiving = passed _ _ c.in_ok-refusal-2.was in
    pair_judged _ _ _ _ _ _ _ _ c.refusal.ensures sending _ c.refusal-2.ensures _ receiving (search checks)

pub returns : goal.returns
returns c =
    let sending = passed _ _ c.in_ok-refusal.was in
    let receiving = passed _ _ c.in_ok-refusal-2.was in
    pair_judged _ _ _ _ _ _ _ _ c.refusal.ensures sending _ c.refusal-2.ensures _ receiving (search checks)
