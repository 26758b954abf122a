use lib.ListN.{get_or}
use Rattle.basics.proofs.SumLaws.{list_start}
use Rattle.words.proofs.PutLaws.{before_zeros, none_past}
use Rattle.words.proofs.ColumnLaws.{fill_next}
use borrow.Author.Rules.{rules}
use Rattle.words.proofs.opening.put_shares.Goals as goal

pub loop-i-init : goal.loop-i-init
loop-i-init c = search list_start

pub loop-i-preserved : goal.loop-i-preserved
loop-i-preserved c = search (fill_next, rules)

pub returns : goal.returns
returns c = let at = c.loop-i in
    let shares = c.args.shares.now in
    before_zeros (λ j. get_or shares j 0) at.i _ _ at.invariant c.requires.2 (search rules) (none_past shares at.i (search rules))
