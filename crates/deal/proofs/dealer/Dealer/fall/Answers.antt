-- In this round, or in the next.
use Prim.Native.Nat.{◌+◌}
use Rattle.deal.specs.Dealing.{Fallen}
use Rattle.deal.proofs.DealerLaws.{falls_there, owner_here, owner_there}
use Rattle.deal.proofs.dealer.Dealer.fall.Goals as goal

pub returns-then-member-self-clause-owner : goal.returns-then-member-self-clause-owner
returns-then-member-self-clause-owner c = search owner_here

pub invariant_of-self-2-clause-dealing : goal.invariant_of-self-2-clause-dealing
invariant_of-self-2-clause-dealing c =
    let d = c.args.self.now in
    let fell : Fallen d.counts.now d.q d.slot (d.round + 1) c.taker_from-self.result = search falls_there in
    fell.dealing

pub returns-clause-owner : goal.returns-clause-owner
returns-clause-owner c = search owner_there

pub returns-clause-fallen : goal.returns-clause-fallen
returns-clause-fallen c = search falls_there
