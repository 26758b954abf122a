-- Both layouts fill the circle, so the unit where the sender's stretch ends lies in a stretch of each.
use Rattle.circle.proofs.PositionLaws.{send_fits, receive_fits, units_some, start_sends, start_receives, start_told}
use borrow.Author.Rules.{rules}
use Rattle.circle.proofs.walk.start.Goals as goal

pub stretch_end-x-requires : goal.stretch_end-x-requires
stretch_end-x-requires c = (search rules, search rules, search send_fits, search units_some)

pub locate-sender-requires : goal.locate-sender-requires
locate-sender-requires c = (search rules, search send_fits, search start_sends)

pub locate-receiver-requires : goal.locate-receiver-requires
locate-receiver-requires c = (search rules, search receive_fits, search start_receives)

pub returns : goal.returns
returns c = search start_told
