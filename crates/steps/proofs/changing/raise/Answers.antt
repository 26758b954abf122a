use mathlib.Core.Path.{◌≡◌, refl}
use lib.ListN.{length}
use Rattle.steps.proofs.ChangeLaws.{small_start, small_here, small_turn, changed_turn, changed_done}
use borrow.Author.Rules.{rules}
use Rattle.steps.proofs.changing.raise.Goals as goal

pub loop-o-init : goal.loop-o-init
loop-o-init c =
    let all = c.into_iter-o-iterator.ensures.into_iter_gives in
    (search (small_start, rules), rw all refl, rw all refl)

pub overflow_add-counts : goal.overflow_add-counts
overflow_add-counts c = let first = c.in-Some.ensures.steps in search (small_here, rules)

pub loop-o-preserved : goal.loop-o-preserved
loop-o-preserved c =
    let first = c.in-Some.ensures.steps in
    let long : length c.loop-o.counts ≡ 64 = search rules in
    let many : length c.loop-o.sets ≡ 64 = search rules in
    (search small_turn, search changed_turn, search changed_turn)

pub returns : goal.returns
returns c =
    let none = c.in-None.ensures.steps in
    let long : length c.loop-o.counts ≡ 64 = search rules in
    let many : length c.loop-o.sets ≡ 64 = search rules in
    (search changed_done, search changed_done)
