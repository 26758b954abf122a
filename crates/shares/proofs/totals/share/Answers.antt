-- The test asked of each place is whether its bit is marked, and past the last that is named there is none.
use Rattle.marks.specs.Masks.{is_marked}
use Rattle.shares.proofs.ShareLaws.{share_named}
use borrow.Author.Rules.{rules}
use Rattle.shares.proofs.totals.share.Goals as goal

pub returns : goal.returns
returns c = (share_named _ _ c.ranges.members _ _ _ c.reach.ensures.0 (search rules) (c.share_where.ensures.value (is_marked c.args.members) (λ i b l q. search rules)), search rules)
