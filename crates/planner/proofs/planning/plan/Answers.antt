-- Badly built, or as what it asks for.
use Rattle.std.proofs.Common.{refl, rules}
use Rattle.input.proofs.BuildIs.{so_told}
use Rattle.planner.proofs.PlanLaws.{bad_end, bad_put, plan_end, plan_put}
use Rattle.planner.proofs.planning.plan.Goals as goal

pub returns-in-None : goal.returns-in-None
returns-in-None c =
    let b = c.in-None.ensures in
    (bad_end _ _ b refl _ (rw c.number.ensures at c.put_refused.ensures.0), bad_put _ _ b refl _ _ (rw c.number.ensures at c.put_refused.ensures.1))

pub put_built-requires : goal.put_built-requires
put_built-requires c = (so_told _ _ c.in-Some.ensures refl, search rules)

pub returns-in-Some : goal.returns-in-Some
returns-in-Some c =
    let b = c.in-Some.ensures in
    (plan_end _ _ b refl _ c.put_built.ensures.0, plan_put _ _ b refl _ _ c.put_built.ensures.1)
