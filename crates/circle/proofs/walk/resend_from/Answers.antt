-- The resend is the definition, opened.
use Rattle.circle.specs.Positions.{resend_from}
use Rattle.circle.proofs.walk.resend_from.Goals as goal

pub returns : goal.returns
unfolding resend_from
returns c = cc
