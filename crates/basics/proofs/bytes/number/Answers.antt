-- The byte of a turn is the next of the part read backwards; what it adds is a law over the part.
use Rattle.std.proofs.Common.{◌∙◌}
use Rattle.std.proofs.lemmas.Iterator.Adapters.{YieldsList-from_rev_slice}
use Rattle.std.proofs.lemmas.Iterator.Consumers.{YieldsList-turn, YieldsList-end}
use Rattle.std.proofs.lemmas.List.{length_push, length-reverse}
use Rattle.basics.proofs.ByteLaws.{number_start, number_done, number_times, number_sum, number_turn}
use Rattle.basics.proofs.bytes.number.Goals as goal

pub loop-b-init : goal.loop-b-init
loop-b-init c = search number_start

pub overflow_mul-x : goal.overflow_mul-x
overflow_mul-x c =
    let t = YieldsList-turn (YieldsList-from_rev_slice c.args.part.now cc) c.loop-b.yielded _ c.loop-b.yielded_by _ _ c.in-Some.b c.in-Some.is c.next.ensures.steps in
    number_times _ _ _ c.requires c.type_inv.part c.loop-b.invariant _ t

pub overflow_add-x : goal.overflow_add-x
overflow_add-x c =
    let t = YieldsList-turn (YieldsList-from_rev_slice c.args.part.now cc) c.loop-b.yielded _ c.loop-b.yielded_by _ _ c.in-Some.b c.in-Some.is c.next.ensures.steps in
    number_sum _ _ _ c.requires c.type_inv.part c.loop-b.invariant _ t _ cc

pub loop-b-preserved : goal.loop-b-preserved
loop-b-preserved c =
    let t = YieldsList-turn (YieldsList-from_rev_slice c.args.part.now cc) c.loop-b.yielded _ c.loop-b.yielded_by _ _ c.in-Some.b c.in-Some.is c.next.ensures.steps in
    rw length_push (number_turn _ _ _ c.requires c.type_inv.part c.loop-b.invariant _ t _ cc)

pub returns : goal.returns
returns c =
    let t = YieldsList-end (YieldsList-from_rev_slice c.args.part.now cc) c.loop-b.yielded _ c.loop-b.yielded_by _ _ c.in-None.is c.next.ensures.steps in
    number_done _ _ _ (t.1 ∙ length-reverse c.args.part.now) c.loop-b.invariant
