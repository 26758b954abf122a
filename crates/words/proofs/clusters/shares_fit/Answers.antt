use Prim.Native.Nat.{◌+◌, ◌-◌}
use Rattle.words.proofs.StraightLaws.{off_start}
use Rattle.words.proofs.SpanLaws.{part_within, fits_turn, fits_done}
use native.Mathlib.Omega.{arith}
use borrow.Author.Rules.{rules}
use Rattle.words.proofs.clusters.shares_fit.Goals as goal

pub loop-share-init : goal.loop-share-init
loop-share-init c = search off_start

pub share_off-off-requires : goal.share_off-off-requires
share_off-off-requires c = search (part_within, rules)

pub loop-share-preserved : goal.loop-share-preserved
loop-share-preserved c = let l = c.loop-share in fits_turn c.args.words.now c.args.at _ l.share-index l.off l.invariant c.share_off-off.result c.loop-share-test.true c.share_off-off.ensures

pub returns : goal.returns
returns c =
    let l = c.loop-share in
    let k = c.args.at + c.args.n - c.args.at in
    fits_done c.args.words.now c.args.at k l.share-index l.off l.invariant c.args.n (omega arith) (omega arith) (omega arith) (search rules) c.loop-share-test.false
