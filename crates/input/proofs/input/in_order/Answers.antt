-- The test is the definition, opened.
use Rattle.input.specs.Input.{in_order}
use Rattle.input.proofs.input.in_order.Goals as goal

pub returns : goal.returns
unfolding in_order
returns c = cc
