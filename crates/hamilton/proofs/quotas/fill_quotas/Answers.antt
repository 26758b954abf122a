use lib.ListN.{length-set}
use Rattle.basics.proofs.SumLaws.{list_start}
use Rattle.hamilton.proofs.CountLaws.{list_next, list_done, share_small, quota_told, key_told, undealt_start, undealt_fits, undealt_turn, undealt_done}
use borrow.Author.Rules.{rules}
use Rattle.hamilton.proofs.quotas.fill_quotas.Goals as goal

pub loop-i-init : goal.loop-i-init
loop-i-init c = (search undealt_start, search rules, search list_start, search rules, search list_start)

pub times-product-requires : goal.times-product-requires
times-product-requires c = (search share_small, search rules)

pub overflow_sub-rest : goal.overflow_sub-rest
overflow_sub-rest c = search undealt_fits

pub loop-i-preserved : goal.loop-i-preserved
loop-i-preserved c = (search undealt_turn, simp length-set (search rules), search (list_next, quota_told), simp length-set (search rules), search (list_next, key_told))

pub returns : goal.returns
returns c = record { value = search undealt_done; out_after = search list_done; keys_after = search list_done }
