-- The resend of the position where it starts.
use Rattle.circle.proofs.PositionLaws.{resend_told}
use borrow.Author.Rules.{rules}
use Rattle.circle.proofs.walk.resend_at.Goals as goal

pub returns : goal.returns
returns c = search (resend_told, rules)
