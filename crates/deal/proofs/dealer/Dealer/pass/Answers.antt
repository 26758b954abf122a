-- The next slot falls to a member after this one, or it is the first slot again.
use Rattle.deal.proofs.DealerLaws.{after_dealing, again_dealing}
use Rattle.deal.proofs.dealer.Dealer.pass.Goals as goal

pub invariant_of-self-clause-dealing : goal.invariant_of-self-clause-dealing
invariant_of-self-clause-dealing c = search again_dealing

pub invariant_of-self-2-clause-dealing : goal.invariant_of-self-2-clause-dealing
invariant_of-self-2-clause-dealing c = search after_dealing
