-- The variants stand in the table's order.
use Rattle.basics.proofs.RefusalLaws.{number_placed}
use Rattle.basics.proofs.refusal.Refusal.number.Goals as goal

pub returns : goal.returns
returns c = search number_placed
