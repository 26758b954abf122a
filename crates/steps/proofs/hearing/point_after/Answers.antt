-- Each return but the last says why the point stays.
use Rattle.steps.proofs.PointLaws.{point_below, point_above, point_few, shares_narrow, shares_fit_lem}
use borrow.Author.Rules.{rules}
use Rattle.steps.proofs.hearing.point_after.Goals as goal

pub returns-then-c-p : goal.returns-then-c-p
returns-then-c-p c = search (point_below, rules)

pub returns-then-p-words : goal.returns-then-p-words
returns-then-p-words c = search (point_above, rules)

pub reached-above-requires : goal.reached-above-requires
reached-above-requires c = (search rules, search (shares_narrow, rules), search rules, search rules)

pub overflow_add-above : goal.overflow_add-above
overflow_add-above c = search (shares_fit_lem, rules)

pub returns-then-above-words : goal.returns-then-above-words
returns-then-above-words c = search (point_few, rules)
