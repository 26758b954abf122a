-- A refusal is passed on with zeros; an accepted call answers with the walk from the original sender.
use Rattle.basics.proofs.RefusalLaws.{passed, handed_on, not_zero}
use Rattle.resend.proofs.ResendLaws.{deals, sends_sized, receives_sized, some_resend, first_is_a_member, resend_refused, resend_told}
use Rattle.resend.proofs.pairs.resend_pair.Goals as goal

pub returns-in_err-resend_refusal : goal.returns-in_err-resend_refusal
returns-in_err-resend_refusal c =
    rw (handed_on c.from_residual.result c.in_err-resend_refusal.field-0.0 c.from_residual.ensures.1)
    (resend_refused _ _ _ _ _ _ _ _ _ _ c.in_err-resend_refusal.ensures (not_zero _))

pub first_sender-first-requires : goal.first_sender-first-requires
first_sender-first-requires c = deals _ _ _ _ _ _ _ _ _ _ c.resend_refusal.ensures (passed _ _ c.in_ok-resend_refusal.was)

pub resend_at-requires : goal.resend_at-requires
resend_at-requires c =
    let judged = c.resend_refusal.ensures in
    let ok = passed _ _ c.in_ok-resend_refusal.was in
    let first = c.first_sender-first.ensures in
    (sends_sized _ _ _ _ _ _ _ _ _ _ judged ok, receives_sized _ _ _ _ _ _ _ _ _ _ judged ok, first_is_a_member _ _ _ _ _ _ _ _ _ _ judged ok _ first, some_resend _ _ _ _ _ _ _ _ _ _ judged ok)

pub returns : goal.returns
returns c =
    resend_told _ _ _ _ _ _ _ _ _ _ c.resend_refusal.ensures (passed _ _ c.in_ok-resend_refusal.was) _ c.first_sender-first.ensures _ c.resend_at.ensures
