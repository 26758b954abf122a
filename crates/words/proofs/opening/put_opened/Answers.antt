-- Three parts, put into zeros.
use Rattle.words.proofs.PutLaws.{opened_put, zeros_first, zeros_second}
use borrow.Author.Rules.{rules}
use Rattle.words.proofs.opening.put_opened.Goals as goal

pub put_cluster-requires : goal.put_cluster-requires
put_cluster-requires c = (search rules, search rules, search zeros_first)

pub put_cluster-requires-2 : goal.put_cluster-requires-2
put_cluster-requires-2 c = (search rules, search rules, search zeros_second)

pub returns : goal.returns
returns c = search (opened_put, rules)
