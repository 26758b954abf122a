-- Each field fits, by what is asked of the words.
use Rattle.words.specs.Taken.{cluster_at}
use Rattle.words.proofs.FitLaws.{members_at, u_at, r_at}
use borrow.Author.Rules.{rules}
use Rattle.words.proofs.taking.cluster_at.Goals as goal

pub overflow_cast-result : goal.overflow_cast-result
overflow_cast-result c = search (members_at, rules)

pub overflow_cast-result-2 : goal.overflow_cast-result-2
overflow_cast-result-2 c = search (u_at, rules)

pub overflow_cast-result-3 : goal.overflow_cast-result-3
overflow_cast-result-3 c = search (r_at, rules)

pub returns : goal.returns
unfolding cluster_at
returns c = cc
