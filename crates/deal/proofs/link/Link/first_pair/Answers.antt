-- A refusal comes with zeros; otherwise both clusters can be dealt.
use Rattle.basics.proofs.RefusalLaws.{passed, handed_on, not_zero}
use Rattle.deal.proofs.PairLaws.{deals_sending, deals_receiving, pair_refused, pair_answered}
use Rattle.deal.proofs.link.Link.first_pair.Goals as goal

pub returns-in_err-first_pair_refusal : goal.returns-in_err-first_pair_refusal
returns-in_err-first_pair_refusal c =
    rw (handed_on c.from_residual.result c.in_err-first_pair_refusal.field-0.0 c.from_residual.ensures.1)
    (pair_refused _ _ _ _ _ _ _ _ _ c.in_err-first_pair_refusal.ensures (not_zero _))

pub first_sender-sender-requires : goal.first_sender-sender-requires
first_sender-sender-requires c = deals_sending _ _ _ _ _ _ _ _ _ c.first_pair_refusal.ensures (passed _ _ c.in_ok-first_pair_refusal.was)

pub first_receiver-receiver-requires : goal.first_receiver-receiver-requires
first_receiver-receiver-requires c = deals_receiving _ _ _ _ _ _ _ _ _ c.first_pair_refusal.ensures (passed _ _ c.in_ok-first_pair_refusal.was)

pub returns : goal.returns
returns c =
    let ok = passed _ _ c.in_ok-first_pair_refusal.was in
    pair_answered _ _ _ _ _ _ _ _ _ c.first_pair_refusal.ensures _ _ ok c.first_sender-sender.ensures c.first_receiver-receiver.ensures
