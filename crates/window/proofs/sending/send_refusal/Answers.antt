-- 17 first, then what S and p say.
use Rattle.window.proofs.SendLaws.{send_17, sent_small, point_small, send_next}
use Rattle.window.proofs.sending.send_refusal.Goals as goal

pub returns-then-not-well_formed : goal.returns-then-not-well_formed
returns-then-not-well_formed c = search send_17

pub next_refusal-requires : goal.next_refusal-requires
next_refusal-requires c = (search sent_small, search point_small)

pub returns : goal.returns
returns c = search send_next
