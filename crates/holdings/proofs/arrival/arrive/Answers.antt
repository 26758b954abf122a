-- A refusal leaves the holdings; an accepted message is taken in.
use Rattle.basics.proofs.RefusalLaws.{passed, handed_on, not_zero}
use Rattle.holdings.proofs.ArrivalLaws.{arrival_refused, arrival_taken, accepted_low, accepted_near}
use Rattle.holdings.proofs.arrival.arrive.Goals as goal

pub returns-in_err-refusal_of : goal.returns-in_err-refusal_of
returns-in_err-refusal_of c =
    rw (handed_on c.from_residual.result c.in_err-refusal_of.field-0.0 c.from_residual.ensures.1)
    (arrival_refused _ _ _ c.in_err-refusal_of.ensures (not_zero _))

pub taken-requires : goal.taken-requires
taken-requires c =
    let ok = passed _ _ c.in_ok-refusal_of.was in
    (accepted_low _ _ _ c.refusal_of.ensures ok, accepted_near _ _ _ c.refusal_of.ensures ok)

pub returns : goal.returns
returns c = arrival_taken _ _ _ c.refusal_of.ensures _ (passed _ _ c.in_ok-refusal_of.was) c.taken.ensures
