use Rattle.circle.specs.Stretches.{same_place}
use Rattle.circle.specs.Positions.{same_position}
use Rattle.circle.proofs.PositionLaws.{on_circle}
use Rattle.circle.proofs.PeriodLaws.{walk_start, walk_next, walk_turn, walk_done}
use borrow.Author.Rules.{rules}
use Rattle.circle.proofs.walk.position_of.Goals as goal

pub loop-left-init : goal.loop-left-init
loop-left-init c = (search rules, search rules, search walk_start)

pub next-at-requires : goal.next-at-requires
next-at-requires c = search (on_circle, rules)

pub loop-left-preserved : goal.loop-left-preserved
unfolding same_position same_place
loop-left-preserved c = (search rules, search walk_next, search walk_turn)

pub returns : goal.returns
returns c = search walk_done
