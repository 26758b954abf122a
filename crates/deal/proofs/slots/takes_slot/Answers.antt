-- The test, as a number.
use Rattle.basics.proofs.HowManyLaws.{one_le}
use Rattle.hamilton.proofs.CountLaws.{as_number}
use Rattle.deal.proofs.slots.takes_slot.Goals as goal

pub returns : goal.returns
returns c = (search as_number, rw as_number (search one_le))
