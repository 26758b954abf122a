-- The test asked of each place that has a value is whether that is at least g; the others' value is 0.
use Rattle.std.proofs.Common.{leb, get_or}
use Rattle.basics.proofs.BoolLaws.{branches}
use Rattle.shares.proofs.PointLaws.{reached_parts}
use borrow.Author.Rules.{rules}
use Rattle.shares.proofs.points.reached.Goals as goal
use Rattle.shares.proofs.points.reached.Goals.{then-g-eq0, else-g-eq0}

pub returns : goal.returns
returns c =
    reached_parts _ _ _ _ _ _ (search rules)
    (c.share_where-with_value.ensures.value (λ i. leb c.args.g (get_or c.args.values.now i 0)) (λ i b l q. search rules))
    (elim c.if-g-eq0.branch [ then-g-eq0 w ↦ search branches | else-g-eq0 w ↦ search branches ])
