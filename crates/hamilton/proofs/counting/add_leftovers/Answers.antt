use lib.ListN.{length, length-set}
use Rattle.basics.proofs.SumLaws.{list_start}
use Rattle.hamilton.proofs.CountLaws.{list_done, unread_small, leftover_turn}
use borrow.Author.Rules.{rules}
use Rattle.hamilton.proofs.counting.add_leftovers.Goals as goal

pub loop-i-init : goal.loop-i-init
loop-i-init c = (search rules, search list_start)

pub count-requires : goal.count-requires
count-requires c = search (unread_small, c.requires.small, rules)

pub loop-i-preserved : goal.loop-i-preserved
loop-i-preserved c =
    (simp length-set (search rules), leftover_turn _ _ _ (length c.args.keys.now) _ c.loop-i.out c.args.out.now (search rules) (search rules) (search rules) (search rules) c.count.ensures)

pub returns : goal.returns
returns c = search (list_done, rules)
