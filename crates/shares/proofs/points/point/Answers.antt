use Rattle.std.proofs.Common.{◌≡◌, length, take, arith}
use Rattle.shares.proofs.PointLaws.{best_start, best_turn, point_done}
use lib.Seq.{get_or-take, length-take-le}
use borrow.Author.Rules.{rules}
use Rattle.shares.proofs.points.point.Goals as goal

pub loop-v-init : goal.loop-v-init
loop-v-init c = search best_start

pub loop-v-preserved : goal.loop-v-preserved
loop-v-preserved c = search (best_turn, get_or-take, length-take-le, rules)

pub returns : goal.returns
returns c =
    let few : length (take c.min-valued.result c.args.values.now) ≡ c.min-valued.result = length-take-le _ _ (omega arith) in
    point_done _ _ _ _ c.min-valued.result _ c.loop-v.invariant (search rules) (omega arith) (omega arith)
