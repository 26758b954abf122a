-- A refusal is told; otherwise the head stands first, and the resends behind it.
use Rattle.std.proofs.Common.{refl, rules}
use Rattle.basics.proofs.RefusalLaws.{not_zero}
use Rattle.planner.proofs.AskedLaws.{refused_end, refused_put, short_sender, short_receiver, sends, receives, sends_first, lines_room, planned_end, planned_put}
use Rattle.planner.proofs.planning.put_asked.Goals as goal

pub returns-in-Err : goal.returns-in-Err
returns-in-Err c =
    let told = rw c.from.ensures at c.in-Err.ensures in
    (refused_end _ _ told (not_zero _) _ (rw c.number.ensures at c.put_refused.ensures.0), refused_put _ _ told (not_zero _) _ _ (rw c.number.ensures at c.put_refused.ensures.1))

pub put_head-at-requires : goal.put_head-at-requires
put_head-at-requires c =
    let told = rw c.from.ensures at c.in-Ok.ensures in
    (short_sender _ _ _ _ _ _ _ _ _ told refl, short_receiver _ _ _ _ _ _ _ _ _ told refl, search rules)

pub put_resends-requires : goal.put_resends-requires
put_resends-requires c =
    let told = rw c.from.ensures at c.in-Ok.ensures in
    let at = c.put_head-at.ensures.0 in
    (sends _ _ _ _ _ _ _ _ _ told refl, receives _ _ _ _ _ _ _ _ _ told refl, sends_first _ _ _ _ _ _ _ _ _ told refl, lines_room _ _ _ _ _ _ _ _ _ told refl _ _ _ at c.requires (search rules))

pub returns-in-Ok : goal.returns-in-Ok
returns-in-Ok c =
    let told = rw c.from.ensures at c.in-Ok.ensures in
    let at = c.put_head-at.ensures.0 in
    (planned_end _ _ told refl _ at _ c.put_resends.ensures.0, planned_put _ _ told refl _ at _ _ _ c.requires c.put_head-at.ensures.1 c.put_resends.ensures.1)
