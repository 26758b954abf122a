use Rattle.circle.proofs.PlaceLaws.{locate_start, locate_turn, locate_done, locate_end}
use Rattle.circle.proofs.stretches.locate.Goals as goal

pub loop-i-init : goal.loop-i-init
loop-i-init c = search locate_start

pub returns-then-rest-width : goal.returns-then-rest-width
returns-then-rest-width c = search locate_done

pub loop-i-preserved : goal.loop-i-preserved
loop-i-preserved c = search locate_turn

pub unreachable-requires : goal.unreachable-requires
unreachable-requires c = search locate_end
