-- A column, and three words before it.
use Rattle.words.proofs.PutLaws.{cluster_put, zeros_shares}
use borrow.Author.Rules.{rules}
use Rattle.words.proofs.opening.put_cluster.Goals as goal

pub put_shares-requires : goal.put_shares-requires
put_shares-requires c = (search rules, search rules, search zeros_shares)

pub returns : goal.returns
returns c = search (cluster_put, rules)
