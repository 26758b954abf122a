use mathlib.Core.Path.{◌≡◌, refl}
use lib.ListN.{length}
use Rattle.steps.proofs.ChangeLaws.{changed_turn, changed_done}
use borrow.Author.Rules.{rules}
use Rattle.steps.proofs.changing.tell.Goals as goal

pub loop-o-init : goal.loop-o-init
loop-o-init c = rw c.into_iter-o-iterator.ensures.into_iter_gives refl

pub loop-o-preserved : goal.loop-o-preserved
loop-o-preserved c =
    let first = c.in-Some.ensures.steps in
    let long : length c.loop-o.sets ≡ 64 = search rules in
    search changed_turn

pub returns : goal.returns
returns c =
    let none = c.in-None.ensures.steps in
    let long : length c.loop-o.sets ≡ 64 = search rules in
    search changed_done
