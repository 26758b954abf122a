use Rattle.lines.proofs.WalkLaws.{walk_start_end, walk_start, walk_short, walk_room, walk_turn_end, walk_turn, walk_done_end, walk_done}
use Rattle.circle.proofs.PositionLaws.{on_circle, next_told}
use borrow.Author.Rules.{rules}
use Rattle.lines.proofs.lines.put_walk.Goals as goal

pub loop-n-init : goal.loop-n-init
loop-n-init c = (search rules, search walk_start_end, search walk_start)

pub next-pos-requires : goal.next-pos-requires
next-pos-requires c = search (on_circle, rules)

pub put_resend-to-requires : goal.put_resend-to-requires
put_resend-to-requires c = (search (rules), search walk_short, search (walk_room, rules))

pub loop-n-preserved : goal.loop-n-preserved
loop-n-preserved c = (search next_told, search walk_turn_end, search walk_turn)

pub returns : goal.returns
returns c = (search walk_done_end, search walk_done)
