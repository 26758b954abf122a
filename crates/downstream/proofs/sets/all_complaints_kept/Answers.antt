use Rattle.downstream.proofs.FormedLaws.{prefixes}
use Rattle.downstream.proofs.RowLaws.{steady_cut}
use Rattle.downstream.proofs.SetLaws.{sets_start, sets_turn, sets_done}
use borrow.Author.Rules.{rules}
use Rattle.downstream.proofs.sets.all_complaints_kept.Goals as goal

pub slice_bounds-changes-end : goal.slice_bounds-changes-end
slice_bounds-changes-end c = search prefixes

pub loop-o-init : goal.loop-o-init
loop-o-init c = let a = c.args in
    let steady = steady_cut a.numbers.now a.masks.now a.p a.members _ _ _ c.fill_held.ensures c.changes-changing.ensures in
    (search rules, search rules, search rules, search rules, steady, search sets_start)

pub loop-o-preserved : goal.loop-o-preserved
loop-o-preserved c = (search rules, search rules, search rules, search rules, search rules, search sets_turn)

pub returns : goal.returns
returns c = search sets_done
