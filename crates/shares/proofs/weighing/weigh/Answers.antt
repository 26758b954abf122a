use Rattle.shares.proofs.BehindLaws.{bits_behind, total_behind, bits_all, total_all}
use borrow.Author.Rules.{rules}
use Rattle.shares.proofs.weighing.weigh.Goals as goal

pub loop-share-preserved : goal.loop-share-preserved
loop-share-preserved c = (
  bits_behind c.args.shares.now _ _ _ _ c.loop-share-test.true c.loop-share.invariant.0 c.share_bits-bits.ensures,
  total_behind c.args.shares.now _ _ _ _ c.loop-share-test.true c.loop-share.invariant.1 (search rules),
)

pub returns : goal.returns
returns c = (search (bits_all, rules), search (total_all, rules))
