use lib.ListN.{get_or}
use Rattle.hamilton.proofs.RankLaws.{next_place, next_member, none_below, few_below, halves_met}
use borrow.Author.Rules.{rules}
use Rattle.hamilton.proofs.ranks.threshold.Goals as goal

pub returns-then-rest-eq0 : goal.returns-then-rest-eq0
returns-then-rest-eq0 c = none_below (λ j. get_or c.args.keys.now j 0) _ _ c.if-rest-eq0.true

pub loop-low-init : goal.loop-low-init
loop-low-init c = (search rules, search rules, search rules, search next_place, search few_below, search rules)

pub loop-low-preserved-then-found-rest-2 : goal.loop-low-preserved-then-found-rest-2
loop-low-preserved-then-found-rest-2 c = (search rules, search rules, search next_member, search rules, search rules, search rules)

pub loop-low-preserved : goal.loop-low-preserved
loop-low-preserved c = (search rules, search rules, search next_member, search rules, search rules, search rules)

pub returns : goal.returns
returns c = halves_met _ _ _ _ _ c.requires.different (search rules) (search rules) c.loop-low-test.false
