-- The ends go behind those of the steps before, and a stretch that is whole begins here.
use Rattle.circle.proofs.PositionLaws.{send_fits, on_circle}
use Rattle.circle.proofs.PeriodLaws.{walk_next}
use Rattle.circle.proofs.TableLaws.{step_member, step_begin, step_put}
use Rattle.circle.proofs.table.put_step.Goals as goal

pub bounds-begins-m : goal.bounds-begins-m
bounds-begins-m c = search step_begin

pub begin_at-requires : goal.begin_at-requires
begin_at-requires c = (search send_fits, search step_member)

pub bounds-begins-m-2 : goal.bounds-begins-m-2
bounds-begins-m-2 c = search step_begin

pub next-requires : goal.next-requires
next-requires c = search on_circle

pub returns-clause-value : goal.returns-clause-value
returns-clause-value c = search walk_next

pub returns-clause-more_steps : goal.returns-clause-more_steps
returns-clause-more_steps c = search step_put
